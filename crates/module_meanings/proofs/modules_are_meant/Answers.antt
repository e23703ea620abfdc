use Rattle.module_meanings.proofs.Modules.{module-means, module-meant}
use Rattle.module_meanings.proofs.modules_are_meant.Goals as goal

pub returns-clause-built : goal.returns-clause-built
returns-clause-built c flat means implied files outsides source units symbols final asked made ordered given =
    module-meant flat ordered means implied files outsides source units symbols final asked made given

pub returns-clause-means : goal.returns-clause-means
returns-clause-means c flat means implied files outsides source units symbols final asked made ordered given =
    module-means flat ordered means implied files outsides source units symbols final
    (module-meant flat ordered means implied files outsides source units symbols final asked made given)
