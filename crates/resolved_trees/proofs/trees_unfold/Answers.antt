use Rattle.resolved_trees.proofs.Kept.{tree-step}
use Rattle.resolved_trees.proofs.trees_unfold.Goals as goal

pub returns : goal.returns
returns c flat i node ordered e = tree-step flat i node ordered e
