use Rattle.family_levels.proofs.Telling.{are-found}
use Rattle.family_levels.proofs.standing.findings_stand_in_text.Goals as goal

pub returns : goal.returns
returns c files modules found distinct are outcomes named = are-found files found outcomes named (c.files_stand_in_text.ensures files modules distinct are)
