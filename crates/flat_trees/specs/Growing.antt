-- What of a flat module is named: it is there, so that what is added behind it changes nothing of it.
use Rattle.std.specs.Prelude.{◌<◌, length}
use Rattle.std.specs.List.{AllByRecursion}
use Rattle.tla_model.specs.Tables.{Named}
use Rattle.tla_model.specs.Entities.{Meaning}
use Rattle.kind_text.specs.FlatModule.{FlatModule, UsesDefinition, UsesInstance}
use Rattle.flat_trees.specs.Stands.{Stand, Defined, Through, Brought}
use Rattle.flat_trees.specs.Layouts.{Layout}

module _ (flat : FlatModule) where
  -- the definitions and instances that a name stands for are there, and so are the nodes that these name
  abbrev pub IsWithin : Stand → Type 0
  IsWithin (Defined d orders) = UsesDefinition flat (length flat.nodes) d
  IsWithin (Through j orders inner) = UsesInstance flat (length flat.nodes) j × ((name : Named) → IsWithin (inner name))
  IsWithin (Brought j inner) = UsesInstance flat (length flat.nodes) j × IsWithin inner
  IsWithin stand = Unit {0}

  -- the same of all that is known round a node
  pub record IsLayoutWithin (layout : Layout) : Type 0 where
    pub stands : (meaning : Meaning) → IsWithin (layout.stands meaning)
    pub olds : AllByRecursion (λ i. i < length flat.nodes) layout.olds
