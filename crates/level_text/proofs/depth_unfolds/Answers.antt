use Rattle.level_text.proofs.Depths.{depth-step}
use Rattle.level_text.proofs.depth_unfolds.Goals as goal

pub returns : goal.returns
returns c = depth-step
