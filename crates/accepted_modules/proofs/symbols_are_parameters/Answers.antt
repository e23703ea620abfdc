use Rattle.tla_model.specs.Tables.{Named}
use Rattle.tla_model.specs.Entities.{Meaning}
use Rattle.module_model.specs.Exports.{exported, is_meant, stands_for_parameter}
use Rattle.module_model.specs.Resolution.{outside_in}
use Rattle.accepted_modules.proofs.Declaring.{unit-parameters}
use Rattle.accepted_modules.proofs.Placed.{first-others, symbol-placed}
use Rattle.accepted_modules.proofs.Sharing.{extended-shared}
use Rattle.accepted_modules.proofs.Symbols.{outside-offered, symbols-stay}
use Rattle.accepted_modules.proofs.Tables.{entry-there, once-passing}
use Rattle.accepted_modules.proofs.symbols_are_parameters.Goals as goal

pub returns-clause-offered : goal.returns-clause-offered
returns-clause-offered c = outside-offered

pub returns-clause-stay : goal.returns-clause-stay
returns-clause-stay c = symbols-stay

pub returns-clause-declared : goal.returns-clause-declared
returns-clause-declared c = unit-parameters

pub returns-clause-once : goal.returns-clause-once
returns-clause-once c = λ files source units given.
    once-passing (λ (entry : Named × Meaning). is_meant stands_for_parameter entry.1) (exported (outside_in files source units)) (outside-offered files source units given).once

pub returns-clause-placed : goal.returns-clause-placed
returns-clause-placed c = λ leads parameters place name m at symbol. symbol-placed leads parameters place name m (entry-there parameters name m at) symbol

pub returns-clause-extended : goal.returns-clause-extended
returns-clause-extended c = first-others

pub returns-clause-shared : goal.returns-clause-shared
returns-clause-shared c = extended-shared
