use Rattle.flat_trees.proofs.Instances.{parameter-stays, symbols-stay}
use Rattle.flat_trees.proofs.Meanings.{symbols-same}
use Rattle.flat_trees.proofs.symbols_stay.Goals as goal

pub returns-clause-nodes : goal.returns-clause-nodes
returns-clause-nodes c flat r node place ordered there form = parameter-stays flat r node place ordered there form

pub returns-clause-symbols : goal.returns-clause-symbols
returns-clause-symbols c flat made base here symbols number leaves all meaning = symbols-stay flat made base here symbols number leaves all meaning

pub returns-clause-same : goal.returns-clause-same
returns-clause-same c base symbols place a b same alike = symbols-same base symbols place a b same alike
