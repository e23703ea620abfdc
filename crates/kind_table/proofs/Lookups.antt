-- What is looked up in tables is what their definitions say.
use Rattle.std.proofs.Common.{◌≡◌, ℕ, ◌<◌, ◌≤◌, List, Some, None, refl, sym, ap, ◌∙◌, length, get_or}
use Rattle.std.specs.Prelude.{option_map, slice_get}
use Rattle.std.proofs.lemmas.Option.{slice_get_past, slice_get_read}
use Rattle.kind_table.specs.declared.flat.Node as node
use Rattle.kind_table.specs.declared.flat.Definition as definition
use Rattle.kind_table.specs.declared.flat.Instance as instance
use Rattle.kind_table.specs.declared.flat.FlatModule as table
use Rattle.kind_table.specs.Flattened.{definition_of, flat_of, instance_of, node_of}
use Rattle.kind_table.proofs.TableEntries.{definition-none, definition-read, instance-at, node-at}

module _ (t : table.FlatModule) where
  -- a definition that is there
  pub definition_got : (xs : List definition.Definition) (d : ℕ) (x : definition.Definition) → xs ≡ t.definitions.items → d < length xs → x ≡ get_or xs d x → slice_get (flat_of t).definitions d ≡ Some (definition_of x)
  definition_got xs d x is l e = definition-read t d x (sym (ap (λ (ys : List definition.Definition). slice_get ys d) is) ∙ slice_get_read xs _ d x refl l e)

  -- and one that is not
  pub definition_gone : (xs : List definition.Definition) (d : ℕ) → xs ≡ t.definitions.items → length xs ≤ d → slice_get (flat_of t).definitions d ≡ None
  definition_gone xs d is l = definition-none t d (sym (ap (λ (ys : List definition.Definition). slice_get ys d) is) ∙ slice_get_past xs d l)

  -- a node that is there
  pub node_got : (xs : List node.Node) (i : ℕ) (n : node.Node) → xs ≡ t.nodes.items → i < length xs → n ≡ get_or xs i n → slice_get (flat_of t).nodes i ≡ Some (node_of t.paths.items n)
  node_got xs i n is l e = node-at t i ∙ ap (option_map (node_of t.paths.items)) (sym (ap (λ (ys : List node.Node). slice_get ys i) is) ∙ slice_get_read xs _ i n refl l e)

  -- and one that is not
  pub node_gone : (xs : List node.Node) (i : ℕ) → xs ≡ t.nodes.items → length xs ≤ i → slice_get (flat_of t).nodes i ≡ None
  node_gone xs i is l = node-at t i ∙ ap (option_map (node_of t.paths.items)) (sym (ap (λ (ys : List node.Node). slice_get ys i) is) ∙ slice_get_past xs i l)

  -- an instance that is there
  pub instance_got : (xs : List instance.Instance) (j : ℕ) (x : instance.Instance) → xs ≡ t.instances.items → j < length xs → x ≡ get_or xs j x → slice_get (flat_of t).instances j ≡ Some (instance_of x)
  instance_got xs j x is l e = instance-at t j ∙ ap (option_map instance_of) (sym (ap (λ (ys : List instance.Instance). slice_get ys j) is) ∙ slice_get_read xs _ j x refl l e)

  -- and one that is not
  pub instance_gone : (xs : List instance.Instance) (j : ℕ) → xs ≡ t.instances.items → length xs ≤ j → slice_get (flat_of t).instances j ≡ None
  instance_gone xs j is l = instance-at t j ∙ ap (option_map instance_of) (sym (ap (λ (ys : List instance.Instance). slice_get ys j) is) ∙ slice_get_past xs j l)
