use Rattle.readable_laws.proofs.Counts.{module-few, walk-few}
use Rattle.readable_laws.proofs.uses_are_held_once.Goals as goal

pub returns-clause-trees : goal.returns-clause-trees
returns-clause-trees c = walk-few

pub returns-clause-modules : goal.returns-clause-modules
returns-clause-modules c = module-few
