use Rattle.flat_kinds.proofs.Distinct.{ended-symbols, module-symbols, nothing-behind, says-nothing, symbols-no_definitions}
use Rattle.flat_kinds.proofs.symbols_are_distinct.Goals as goal

pub returns-clause-exported : goal.returns-clause-exported
returns-clause-exported c declares files source units declared names = module-symbols declares files source units declared names

pub returns-clause-nested : goal.returns-clause-nested
returns-clause-nested c declares state round keeps = ended-symbols declares state round keeps

pub returns-clause-kinds : goal.returns-clause-kinds
returns-clause-kinds c declares symbols are = symbols-no_definitions declares symbols are.declared

pub returns-clause-nothing : goal.returns-clause-nothing
returns-clause-nothing c declares base symbols unsaid are = says-nothing declares base symbols unsaid are.declared

pub returns-clause-behind : goal.returns-clause-behind
returns-clause-behind c base outer own place nothing apart = nothing-behind base outer own place nothing apart
