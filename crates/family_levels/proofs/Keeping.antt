-- Where names lead, by resolved trees, is the same in a flat module that has more.
use mathlib.Core.Path.{fun_ext}
use Rattle.std.proofs.Common.{◌≡◌, ◌<◌, ℕ, List, [], ◌∷◌, refl, sym, ap, ◌∙◌, length}
use Rattle.std.specs.Prelude.{slice_get}
use Rattle.std.specs.List.{AllByRecursion}
use Rattle.tla_model.specs.Tables.{Named}
use Rattle.kind_text.specs.FlatModule.{Extends, FlatModule, IsOrdered, Replacement, UsesDefinition, UsesInstance}
use Rattle.flattened_trees.specs.declared.End.TheVariants as end
use Rattle.flattened_trees.specs.Leads.{FlatFace, Lead}
use Rattle.flattened_trees.specs.Within.{IsEndWithin, IsLeadWithin}
use Rattle.resolved_trees.specs.Resolved.{Body, Replace, Replaced, Through, definition_at, instance_at, path_at, replacements_at, resolved}
use Rattle.written_trees.specs.Leading.{Defined, end_in, face_in, lead_in}

-- further definitions change no tree
abbrev pub TreesKept : Type 0
TreesKept = (flat more : FlatModule) (i : ℕ) → Extends flat more → IsOrdered flat → i < length flat.nodes → resolved flat i ≡ resolved more i

module _ (kept : TreesKept) (flat more : FlatModule) (extends : Extends flat more) (ordered : IsOrdered flat) where
  replacements-kept : (rs : List Replacement) → AllByRecursion (λ r. r.root < length flat.nodes) rs → replacements_at flat (resolved flat) rs ≡ replacements_at more (resolved more) rs
  replacements-kept [] all = refl
  replacements-kept (r ∷ rs) all =
      let first = kept flat more r.root extends ordered all.0 in
      let rest = replacements-kept rs all.1 in
      λ i. Replace (first i) r.most (rest i)

  instance-kept : (j : ℕ) → UsesInstance flat (length flat.nodes) j → instance_at flat (resolved flat) (slice_get flat.instances j) ≡ instance_at more (resolved more) (slice_get more.instances j)
  instance-kept j u =
      ap (instance_at flat (resolved flat)) u.1
      ∙ (ap (λ rs. Replaced u.0.outer u.0.parameters u.0.guards rs) (replacements-kept u.0.replacements u.2)
      ∙ sym (ap (instance_at more (resolved more)) (extends.instances j u.0 u.1)))

  path-kept : (path : List ℕ) → AllByRecursion (UsesInstance flat (length flat.nodes)) path → path_at flat (resolved flat) path ≡ path_at more (resolved more) path
  path-kept [] all = refl
  path-kept (j ∷ path) all =
      let first = instance-kept j all.0 in
      let rest = path-kept path all.1 in
      λ i. Through (first i) (rest i)

  definition-kept : (d : ℕ) → UsesDefinition flat (length flat.nodes) d → definition_at flat (resolved flat) (slice_get flat.definitions d) ≡ definition_at more (resolved more) (slice_get more.definitions d)
  definition-kept d u =
      ap (definition_at flat (resolved flat)) u.1
      ∙ (ap (Body u.0.outer) (kept flat more u.0.root extends ordered u.2)
      ∙ sym (ap (definition_at more (resolved more)) (extends.definitions d u.0 u.1)))

  end-kept : (e : end.the_data) → IsEndWithin flat e → end_in flat e ≡ end_in more e
  end-kept end.Nowhere within = refl
  end-kept (end.Leaf kind) within = refl
  end-kept (end.Place place order) within = refl
  end-kept (end.Definition d) within = ap Defined (definition-kept d within)

  lead-kept : (lead : Lead) → IsLeadWithin flat lead → lead_in flat lead ≡ lead_in more lead
  lead-kept lead within =
      let path = path-kept lead.path within.path in
      let end = end-kept lead.end within.end in
      λ i. record { path = path i; end = end i }

  -- what a module is to its instances, where all to which its names lead is there
  pub face-kept : (face : FlatFace) → ((names : List Named) → IsLeadWithin flat (face.leads names)) → face_in flat face ≡ face_in more face
  face-kept face within =
      let leads = fun_ext (λ names. lead-kept (face.leads names) (within names)) in
      λ i. record { parameters = face.parameters; outer = face.outer; leads = leads i; is_constant = face.is_constant }
