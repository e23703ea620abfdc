-- What is read of tables is what their definitions say.
use Rattle.std.proofs.Common.{◌≡◌, ℕ, ◌<◌, Option, Some, None, refl, sym, ap, ◌∙◌, length, get_or}
use Rattle.std.specs.Prelude.{option_map, slice_get}
use Rattle.std.proofs.lemmas.List.{length-map}
use Rattle.std.proofs.lemmas.Option.{slice_get-map, slice_get_read}
use Rattle.kind_text.specs.FlatModule.{FlatModule}
use Rattle.kind_table.specs.declared.flat.Node as node
use Rattle.kind_table.specs.declared.flat.Definition as definition
use Rattle.kind_table.specs.declared.flat.Instance as instance
use Rattle.kind_table.specs.declared.flat.FlatModule as table
use Rattle.kind_table.specs.Flattened.{definition_of, flat_of, instance_of, node_of}

module _ (t : table.FlatModule) where
  pub node-at : (i : ℕ) → slice_get (flat_of t).nodes i ≡ option_map (node_of t.paths.items) (slice_get t.nodes.items i)
  unfolding flat_of
  node-at i = slice_get-map (node_of t.paths.items) t.nodes.items i

  pub definition-at : (d : ℕ) → slice_get (flat_of t).definitions d ≡ option_map definition_of (slice_get t.definitions.items d)
  unfolding flat_of
  definition-at d = slice_get-map definition_of t.definitions.items d

  pub instance-at : (j : ℕ) → slice_get (flat_of t).instances j ≡ option_map instance_of (slice_get t.instances.items j)
  unfolding flat_of
  instance-at j = slice_get-map instance_of t.instances.items j

  pub nodes-long : length (flat_of t).nodes ≡ length t.nodes.items
  unfolding flat_of
  nodes-long = length-map t.nodes.items (node_of t.paths.items)

  -- a node that was read by its number
  pub node-read : (i : ℕ) (n : node.Node) → i < length t.nodes.items → n ≡ get_or t.nodes.items i n → slice_get (flat_of t).nodes i ≡ Some (node_of t.paths.items n)
  node-read i n l e = node-at i ∙ ap (option_map (node_of t.paths.items)) (slice_get_read t.nodes.items _ i n refl l e)

  pub definition-read : (d : ℕ) (x : definition.Definition) → slice_get t.definitions.items d ≡ Some x → slice_get (flat_of t).definitions d ≡ Some (definition_of x)
  definition-read d x e = definition-at d ∙ ap (option_map definition_of) e

  pub definition-none : (d : ℕ) → slice_get t.definitions.items d ≡ None → slice_get (flat_of t).definitions d ≡ None
  definition-none d e = definition-at d ∙ ap (option_map definition_of) e

  -- what stands there among definitions stands there in the table
  pub instance-there : (j : ℕ) (x : Rattle.kind_text.specs.FlatModule.Instance) → slice_get (flat_of t).instances j ≡ Some x → (y : instance.Instance) × (slice_get t.instances.items j ≡ Some y) × (instance_of y ≡ x)
  instance-there j x e = by_read (slice_get t.instances.items j) refl (sym (instance-at j) ∙ e)
    where
      by_read : (o : Option instance.Instance) → slice_get t.instances.items j ≡ o → option_map instance_of (slice_get t.instances.items j) ≡ Some x → (y : instance.Instance) × (slice_get t.instances.items j ≡ Some y) × (instance_of y ≡ x)
      by_read None e q = let r : option_map instance_of None ≡ Some x = sym (ap (option_map instance_of) e) ∙ q in cc
      by_read (Some y) e q = let r : Some (instance_of y) ≡ Some x = sym (ap (option_map instance_of) e) ∙ q in (y, e, cc)

  pub definition-there : (d : ℕ) (x : Rattle.kind_text.specs.FlatModule.Definition) → slice_get (flat_of t).definitions d ≡ Some x → (y : definition.Definition) × (slice_get t.definitions.items d ≡ Some y) × (definition_of y ≡ x)
  definition-there d x e = by_read (slice_get t.definitions.items d) refl (sym (definition-at d) ∙ e)
    where
      by_read : (o : Option definition.Definition) → slice_get t.definitions.items d ≡ o → option_map definition_of (slice_get t.definitions.items d) ≡ Some x → (y : definition.Definition) × (slice_get t.definitions.items d ≡ Some y) × (definition_of y ≡ x)
      by_read None e q = let r : option_map definition_of None ≡ Some x = sym (ap (option_map definition_of) e) ∙ q in cc
      by_read (Some y) e q = let r : Some (definition_of y) ≡ Some x = sym (ap (option_map definition_of) e) ∙ q in (y, e, cc)
