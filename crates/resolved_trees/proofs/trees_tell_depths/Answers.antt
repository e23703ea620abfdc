use Rattle.resolved_trees.proofs.Deep.{depths-told}
use Rattle.resolved_trees.proofs.trees_tell_depths.Goals as goal

pub returns : goal.returns
returns c flat i = depths-told flat i
