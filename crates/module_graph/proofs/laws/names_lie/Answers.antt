use Rattle.module_graph.proofs.WithinUnits.{names-lie}
use Rattle.module_graph.proofs.laws.names_lie.Goals as goal

pub returns : goal.returns
returns c = names-lie
