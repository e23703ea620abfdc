-- When what a name leads to is in a flat module already, with the nodes that this names.
use Rattle.std.specs.Prelude.{length}
use Rattle.std.specs.List.{AllByRecursion}
use Rattle.kind_text.specs.FlatModule.{FlatModule, UsesDefinition, UsesInstance}
use Rattle.flattened_trees.specs.declared.End.TheVariants as end
use Rattle.flattened_trees.specs.Leads.{Lead}

module _ (flat : FlatModule) where
  -- what a name leads to is there
  abbrev pub IsEndWithin : end.the_data → Type 0
  IsEndWithin (end.Definition d) = UsesDefinition flat (length flat.nodes) d
  IsEndWithin _ = Unit {0}

  -- and so are the instances on its way
  pub record IsLeadWithin (lead : Lead) : Type 0 where
    pub path : AllByRecursion (UsesInstance flat (length flat.nodes)) lead.path
    pub end : IsEndWithin lead.end
