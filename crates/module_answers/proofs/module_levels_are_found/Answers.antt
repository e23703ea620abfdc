use Rattle.module_answers.proofs.Levels.{module-found}
use Rattle.module_answers.proofs.module_levels_are_found.Goals as goal

pub returns : goal.returns
returns c flat means implied files outsides source units symbols final asked made ordered given shaped =
    module-found flat ordered means implied files outsides source units symbols final asked made given shaped
