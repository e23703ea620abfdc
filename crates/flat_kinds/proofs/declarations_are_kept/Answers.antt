use Rattle.flat_kinds.proofs.Declarations.{keeps-all, keeps-first, module-declared, symbols-new, unit-leaves}
use Rattle.flat_kinds.proofs.declarations_are_kept.Goals as goal

pub returns-clause-begins : goal.returns-clause-begins
returns-clause-begins c declares files source units declared = keeps-first declares files source units declared

pub returns-clause-units : goal.returns-clause-units
returns-clause-units c declares text files words state units declared names keeps = keeps-all declares text files words declared state units names keeps

pub returns-clause-exports : goal.returns-clause-exports
returns-clause-exports c declares files source units declared names = module-declared declares files source units declared names

pub returns-clause-leaves : goal.returns-clause-leaves
returns-clause-leaves c declares text files words state unit meaning declared names keeps none = unit-leaves declares text files words declared state unit meaning keeps.declared names none

pub returns-clause-new : goal.returns-clause-new
returns-clause-new c declares state symbols layout own keeps before all nothing = symbols-new declares state symbols layout own keeps before all nothing
