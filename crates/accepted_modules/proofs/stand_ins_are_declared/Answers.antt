use Rattle.accepted_modules.proofs.Beside.{all-declared, outside-beside}
use Rattle.accepted_modules.proofs.stand_ins_are_declared.Goals as goal

pub returns-clause-found : goal.returns-clause-found
returns-clause-found c = all-declared

pub returns-clause-outside : goal.returns-clause-outside
returns-clause-outside c = outside-beside
