use Rattle.module_graph.proofs.Lexemes.{enclosing-lexemes}
use Rattle.module_graph.proofs.laws.enclosing_are_lexemes.Goals as goal

pub returns : goal.returns
returns c = enclosing-lexemes
