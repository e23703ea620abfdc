use Rattle.std.proofs.Common.{ap}
use Rattle.resolved_trees.proofs.Telling.{expansions-told}
use Rattle.resolved_trees.proofs.trees_tell_expansions.Goals as goal

pub returns : goal.returns
returns c flat i s = ap (λ x. x s) (expansions-told flat i)
