use Rattle.module_graph.proofs.WithinUnits.{imports-in}
use Rattle.module_graph.proofs.laws.needs_in_order.Goals as goal

pub returns : goal.returns
returns c = imports-in
