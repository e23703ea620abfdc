use Rattle.module_graph.proofs.Lexemes.{placed-names}
use Rattle.module_graph.proofs.laws.lexemes_lie_names.Goals as goal

pub returns : goal.returns
returns c = placed-names
