use Rattle.level_text.proofs.Depths.{depth-use}
use Rattle.level_text.proofs.uses_lead_down.Goals as goal

pub returns : goal.returns
returns c = depth-use
