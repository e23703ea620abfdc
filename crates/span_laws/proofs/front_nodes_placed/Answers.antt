use Rattle.span_laws.proofs.PlacedNodes.{front-nodes-placed}
use Rattle.span_laws.proofs.front_nodes_placed.Goals as goal

pub returns : goal.returns
returns c = front-nodes-placed c.reads_longest.ensures
