use Rattle.resolved_trees.proofs.Kept.{tree-kept}
use Rattle.resolved_trees.proofs.trees_are_kept.Goals as goal

pub returns : goal.returns
returns c flat more i extends ordered here = tree-kept flat more extends ordered i here
