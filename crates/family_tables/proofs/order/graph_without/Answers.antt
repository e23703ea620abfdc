use Rattle.family_tables.specs.Modules.{Entry}
use Rattle.family_tables.specs.Plans.{NeedsBefore}
use Rattle.family_tables.proofs.Graphs.{graph-none, graph-step, kept-own}
use Rattle.family_tables.proofs.order.graph_without.Goals as goal

pub loop-index-init : goal.loop-index-init
loop-index-init c = graph-none (NeedsBefore c.args.modules.now) c.new-without.result c.new-without.ensures

pub loop-index-preserved : goal.loop-index-preserved
loop-index-preserved c =
    let modules = c.args.modules.now in
    let index = c.loop-index.index in
    let entry : Entry = (c.at.result.0.now, c.at.result.1.now) in
    graph-step modules index entry (NeedsBefore modules) c.loop-index.without c.put.new.self c.in_ok-needs.needs c.at.ensures c.loop-index.invariant
    (kept-own modules c.args.graph.now c.requires.graph index entry c.as_slice.result.now c.in_ok-needs.needs c.requires.once c.at.ensures c.as_slice.ensures c.in_ok-needs.ensures) c.in_ok-put.ensures.ok
