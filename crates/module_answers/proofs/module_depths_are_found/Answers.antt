use Rattle.module_answers.proofs.Deepening.{module-names, module-outside}
use Rattle.module_answers.proofs.module_depths_are_found.Goals as goal

pub returns-clause-names : goal.returns-clause-names
returns-clause-names c flat means implied files outsides source units symbols final asked made ordered given arranged =
    module-names flat ordered means implied files outsides source units symbols final asked made given arranged

pub returns-clause-outside : goal.returns-clause-outside
returns-clause-outside c flat means implied files outsides source units symbols final asked made ordered given arranged =
    module-outside flat ordered means implied files outsides source units symbols final asked made given arranged
