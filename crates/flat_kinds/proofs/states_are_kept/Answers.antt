use Rattle.flat_kinds.proofs.Modules.{module-begins, unit-all}
use Rattle.flat_kinds.proofs.Units.{state-agrees, state-exported}
use Rattle.flat_kinds.proofs.Growing.{all-kept}
use Rattle.flat_kinds.proofs.states_are_kept.Goals as goal

pub returns-clause-begins : goal.returns-clause-begins
returns-clause-begins c flat files source units symbols places extensions extended = module-begins flat files source units symbols places extensions extended

pub returns-clause-units : goal.returns-clause-units
returns-clause-units c flat text files words state here round unit coming keeps read = unit-all flat text files words state here round unit coming keeps read

pub returns-clause-exports : goal.returns-clause-exports
returns-clause-exports c flat symbols layout state view constant keeps = state-exported flat symbols layout state view constant keeps

pub returns-clause-agrees : goal.returns-clause-agrees
returns-clause-agrees c flat text files words symbols layout state frame parameters keeps room stands = state-agrees flat text files words symbols state layout keeps frame parameters room stands

pub returns-clause-grows : goal.returns-clause-grows
returns-clause-grows c flat more state here round extends ordered within outers kept = all-kept flat more extends ordered state here round within outers kept
