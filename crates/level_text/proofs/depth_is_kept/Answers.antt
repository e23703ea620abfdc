use Rattle.level_text.proofs.Depths.{depth-kept}
use Rattle.level_text.proofs.depth_is_kept.Goals as goal

pub returns : goal.returns
returns c flat more i extends ordered here = depth-kept flat more extends ordered i here
