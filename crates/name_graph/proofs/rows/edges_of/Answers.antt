use Rattle.std.proofs.Common.{ap, ◌∙◌}
use Rattle.name_graph.proofs.Naming.{edges-step, distinct-rows}
use Rattle.name_graph.specs.Rows.{indices_of}
use Rattle.name_graph.proofs.rows.edges_of.Goals as goal

pub loop-index-preserved : goal.loop-index-preserved
loop-index-preserved c =
    let rows = c.args.rows.now.entries in
    edges-step rows c.loop-index.index c.loop-index.edges.items c.push.new.self.items c.in_ok-indices_of.field-0 c.index.result.now c.in_ok-push.ensures.items (c.in_ok-indices_of.ensures ∙ ap (indices_of rows) c.as_slice.ensures) c.loop-index.invariant c.index.ensures

pub returns-clause-distinct : goal.returns-clause-distinct
returns-clause-distinct c = distinct-rows c.args.rows.now.entries c.len-index-end.ensures.unique
