use Rattle.module_graph.proofs.Passing.{passed}
use Rattle.module_graph.proofs.laws.passes_nested.Goals as goal

pub returns : goal.returns
returns c = passed
