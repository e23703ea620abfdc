-- When what names stand for in a flat module is as deep as what they mean.
use Rattle.std.specs.Prelude.{◌≡◌, ◌⊎◌, ℕ, true, List, [], ◌∷◌, max, slice_get}
use Rattle.tla_tree.specs.Syntax.{Tree}
use Rattle.tla_model.specs.Tables.{Named}
use Rattle.tla_model.specs.Entities.{Meaning, Text}
use Rattle.tla_model.specs.Contexts.{Context}
use Rattle.module_model.specs.Exports.{Known}
use Rattle.kind_text.specs.FlatModule.{FlatModule}
use Rattle.level_text.specs.Depth.{depth as depth_at, depth_of, instance_depth, replaced_depth}
use Rattle.tree_kinds.specs.Standing.{Outside, Reached, same_standing}
use Rattle.tree_kinds.specs.TreeDepths.{Beneath, Depths, depth}
use Rattle.flat_trees.specs.Stands.{Stand, Unsaid, Place, Defined, Through, Brought}
use Rattle.flat_trees.specs.Layouts.{Layout}

-- whatever stands as this does has no depth
abbrev pub IsPlain : Depths → Meaning → Type 0
IsPlain depths meaning = (other : Meaning) → same_standing other meaning ≡ true → depths other [] ≡ record { depth = 0; replaced = 0 }

-- a name stands as before, or for the item at the next place, and then it has no depth
abbrev pub IsDeclaredPlain : Layout → (List Named → Reached) → Stand → Stand → Type 0
IsDeclaredPlain layout depths before next = (next ≡ before) ⊎ ((order : ℕ) × (next ≡ Place layout.places order) × (depths [] ≡ record { depth = 0; replaced = 0 }))

-- what stands round a tree, in another context
abbrev pub beneath_in : Beneath → Context → Beneath
beneath_in around context = record around { context = context }

module _ (flat : FlatModule) where
  -- behind replacements of this depth a name has these depths, at the names that follow it on a path, by what it stands for
  abbrev pub HasDepths : ℕ → Stand → (List Named → Reached) → Type 0
  HasDepths replaced Unsaid depths = Unit {0}
  HasDepths replaced (Defined d orders) depths = depths [] ≡ record { depth = depth_of (depth_at flat) (slice_get flat.definitions d); replaced = replaced }
  HasDepths replaced (Through j orders inner) depths =
      (depths [] ≡ record { depth = instance_depth (depth_at flat) (slice_get flat.instances j); replaced = replaced })
      × ((name : Named) → HasDepths (max replaced (replaced_depth (depth_at flat) (slice_get flat.instances j))) (inner name) (λ path. depths (name ∷ path)))
  HasDepths replaced (Brought j inner) depths = HasDepths (max replaced (replaced_depth (depth_at flat) (slice_get flat.instances j))) inner depths
  HasDepths replaced stand depths = depths [] ≡ record { depth = 0; replaced = replaced }

  -- all that names can mean has these depths
  abbrev pub HaveDepths : (Meaning → Stand) → Depths → Type 0
  HaveDepths stands depths = (meaning : Meaning) → HasDepths 0 (stands meaning) (depths meaning)

  -- the names of a module have the depths that they have outside of it
  abbrev pub IsDeepModule : (Named → Stand) → Outside → Type 0
  IsDeepModule inner outside = (name : Named) → HasDepths 0 (inner name) (λ path. outside.depths (name ∷ path))

  -- what is known round a node agrees with the depths that stand round a tree
  pub record AgreesInDepth (layout : Layout) (around : Beneath) : Type 0 where
    pub context : around.context ≡ layout.context
    pub depths : HaveDepths layout.stands around.depths

  -- a node is as deep as a tree
  abbrev pub IsAsDeep : Text → Known → (List ℕ → Outside) → Beneath → ℕ → Tree → Type 0
  IsAsDeep text known named around i x = depth_at flat i ≡ depth text known named around x
