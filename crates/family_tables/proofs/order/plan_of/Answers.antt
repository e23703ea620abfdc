use Rattle.family_tables.specs.Plans.{Needs}
use Rattle.family_tables.proofs.Graphs.{acyclic, order-is}
use Rattle.family_tables.proofs.order.plan_of.Goals as goal

pub returns-in-Ok : goal.returns-in-Ok
returns-in-Ok c = record {
  order = order-is c.args.modules.now (Needs c.args.modules.now) c.in_ok-graph.graph c.in-Ok.order c.in_ok-graph.ensures (λ name need n. n.0) c.in-Ok.ensures.order;
  cycles = acyclic c.args.modules.now c.in_ok-graph.graph c.in_ok-graph.ensures c.in-Ok.ensures.acyclic;
}
