use Rattle.flat_depths.proofs.Units.{keep-kept, module-begins, state-agrees, state-exported, unit-keeps}
use Rattle.flat_depths.proofs.states_are_as_deep.Goals as goal

pub returns-clause-begins : goal.returns-clause-begins
returns-clause-begins c flat files source units symbols places extensions plain all = module-begins flat files source units symbols places extensions plain all

pub returns-clause-units : goal.returns-clause-units
returns-clause-units c flat text files words state here round unit coming keep read = unit-keeps text files words flat state here round unit coming keep read

pub returns-clause-exports : goal.returns-clause-exports
returns-clause-exports c flat stands state view constant have = state-exported flat stands state view constant have

pub returns-clause-agrees : goal.returns-clause-agrees
returns-clause-agrees c flat text files words symbols layout state keeps have = state-agrees text files words flat symbols layout state keeps have

pub returns-clause-grows : goal.returns-clause-grows
returns-clause-grows c flat more state modules extends ordered within keep = keep-kept flat more extends ordered state modules within keep
