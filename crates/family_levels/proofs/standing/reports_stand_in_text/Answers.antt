use Rattle.family_levels.proofs.Placing.{reports-placed}
use Rattle.family_levels.proofs.standing.reports_stand_in_text.Goals as goal

pub returns : goal.returns
returns c facts files modules distinct are = reports-placed facts files (c.files_stand_in_text.ensures files modules distinct are)
