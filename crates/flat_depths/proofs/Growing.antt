-- Depths in a flat module are those in one that has more.
use Rattle.std.proofs.Common.{◌≡◌, ℕ, suc, ◌<◌, max, List, [], ◌∷◌, map, refl, sym, ap, ◌∙◌, subst, length}
use Rattle.std.specs.Prelude.{slice_get}
use Rattle.std.specs.List.{AllByRecursion}
use Rattle.tla_model.specs.Tables.{Named}
use Rattle.kind_text.specs.FlatModule.{Extends, FlatModule, IsOrdered, Replacement, UsesDefinition, UsesInstance}
use Rattle.level_text.specs.Depth.{depth as depth_at, depth_of, greatest, instance_depth, replaced_depth}
use Rattle.level_text.proofs.Depths.{depth-kept}
use Rattle.tree_kinds.specs.Standing.{Outside, Reached}
use Rattle.tree_kinds.specs.TreeDepths.{Beneath}
use Rattle.flat_trees.specs.Stands.{Stand, Unsaid, Leaf, Place, Defined, Through, Brought}
use Rattle.flat_trees.specs.Layouts.{Layout}
use Rattle.flat_trees.specs.Growing.{IsLayoutWithin, IsWithin}
use Rattle.flat_depths.specs.Depths.{AgreesInDepth, HasDepths, IsDeepModule}

module _ (flat more : FlatModule) (extends : Extends flat more) (ordered : IsOrdered flat) where
  kept : (i : ℕ) → i < length flat.nodes → depth_at flat i ≡ depth_at more i
  kept = depth-kept flat more extends ordered

  roots-kept : (rs : List Replacement) → AllByRecursion (λ r. r.root < length flat.nodes) rs → greatest (depth_at flat) (map (λ r. r.root) rs) ≡ greatest (depth_at more) (map (λ r. r.root) rs)
  roots-kept [] all = refl
  roots-kept (r ∷ rs) all =
      ap (λ n. max n (greatest (depth_at flat) (map (λ (r : Replacement). r.root) rs))) (kept r.root all.0) ∙ ap (max (depth_at more r.root)) (roots-kept rs all.1)

  definition-kept : (d : ℕ) → UsesDefinition flat (length flat.nodes) d → depth_of (depth_at flat) (slice_get flat.definitions d) ≡ depth_of (depth_at more) (slice_get more.definitions d)
  definition-kept d u = ap (depth_of (depth_at flat)) u.1 ∙ ap suc (kept u.0.root u.2) ∙ sym (ap (depth_of (depth_at more)) (extends.definitions d u.0 u.1))

  replaced-kept : (j : ℕ) → UsesInstance flat (length flat.nodes) j → replaced_depth (depth_at flat) (slice_get flat.instances j) ≡ replaced_depth (depth_at more) (slice_get more.instances j)
  replaced-kept j u = ap (replaced_depth (depth_at flat)) u.1 ∙ roots-kept u.0.replacements u.2 ∙ sym (ap (replaced_depth (depth_at more)) (extends.instances j u.0 u.1))

  instance-kept : (j : ℕ) → UsesInstance flat (length flat.nodes) j → instance_depth (depth_at flat) (slice_get flat.instances j) ≡ instance_depth (depth_at more) (slice_get more.instances j)
  instance-kept j u = ap (instance_depth (depth_at flat)) u.1 ∙ ap suc (roots-kept u.0.replacements u.2) ∙ sym (ap (instance_depth (depth_at more)) (extends.instances j u.0 u.1))

  pub has-kept : (stand : Stand) (n : ℕ) (depths : List Named → Reached) → IsWithin flat stand → HasDepths flat n stand depths → HasDepths more n stand depths
  has-kept Unsaid n depths within has = tt
  has-kept (Leaf kind) n depths within has = has
  has-kept (Place place order) n depths within has = has
  has-kept (Defined d orders) n depths within has = has ∙ ap (λ k. record { depth = k; replaced = n }) (definition-kept d within)
  has-kept (Through j orders inner) n depths within has = (
    has.0 ∙ ap (λ k. record { depth = k; replaced = n }) (instance-kept j within.0),
    λ name.
        subst (λ k. HasDepths more (max n k) (inner name) (λ path. depths (name ∷ path))) (replaced-kept j within.0)
        (has-kept (inner name) (max n (replaced_depth (depth_at flat) (slice_get flat.instances j))) (λ path. depths (name ∷ path)) (within.1 name) (has.1 name)),
  )
  has-kept (Brought j inner) n depths within has =
      subst (λ k. HasDepths more (max n k) inner depths) (replaced-kept j within.0)
      (has-kept inner (max n (replaced_depth (depth_at flat) (slice_get flat.instances j))) depths within.1 has)

  pub agrees-kept : (layout : Layout) (around : Beneath) → IsLayoutWithin flat layout → AgreesInDepth flat layout around → AgreesInDepth more layout around
  agrees-kept layout around within agrees =
      record { context = agrees.context; depths = λ meaning. has-kept (layout.stands meaning) 0 (around.depths meaning) (within.stands meaning) (agrees.depths meaning) }

  pub module-kept : (inner : Named → Stand) (outside : Outside) → ((name : Named) → IsWithin flat (inner name)) → IsDeepModule flat inner outside → IsDeepModule more inner outside
  module-kept inner outside within deep name = has-kept (inner name) 0 (λ path. outside.depths (name ∷ path)) (within name) (deep name)
