use Rattle.module_graph.proofs.Lexemes.{imports-lexemes}
use Rattle.module_graph.proofs.laws.imports_are_lexemes.Goals as goal

pub returns : goal.returns
returns c = imports-lexemes
