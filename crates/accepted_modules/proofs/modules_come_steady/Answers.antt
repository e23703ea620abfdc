use Rattle.accepted_modules.proofs.Modules.{beside-of, imports-come, offered-of, parameters-of, steady-of}
use Rattle.accepted_modules.proofs.modules_come_steady.Goals as goal

pub returns-clause-steady : goal.returns-clause-steady
returns-clause-steady c = λ view is. steady-of (λ files source units a derives steady. c.modules_stay_steady.ensures.outside files source units a derives steady) is

pub returns-clause-beside : goal.returns-clause-beside
returns-clause-beside c = λ view is. beside-of is

pub returns-clause-offered : goal.returns-clause-offered
returns-clause-offered c = λ view is. offered-of is

pub returns-clause-parameters : goal.returns-clause-parameters
returns-clause-parameters c = λ view is. parameters-of is

pub returns-clause-imports : goal.returns-clause-imports
returns-clause-imports c = imports-come
