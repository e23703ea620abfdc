use Rattle.family_tables.specs.Modules.{Entry}
use Rattle.family_tables.specs.Plans.{Needs}
use Rattle.family_tables.proofs.Graphs.{graph-none, graph-step, entry-needs}
use Rattle.family_tables.proofs.order.graph_of.Goals as goal

pub loop-index-init : goal.loop-index-init
loop-index-init c = graph-none (Needs c.args.modules.now) c.new-graph.result c.new-graph.ensures

pub loop-index-preserved : goal.loop-index-preserved
loop-index-preserved c =
    let modules = c.args.modules.now in
    let index = c.loop-index.index in
    let entry : Entry = (c.at.result.0.now, c.at.result.1.now) in
    graph-step modules index entry (Needs modules) c.loop-index.graph c.put.new.self c.at.result.1.now.needs c.at.ensures c.loop-index.invariant (entry-needs modules index entry c.requires c.at.ensures) c.in_ok-put.ensures.ok
