use Rattle.std.proofs.Common.{arith}
use Rattle.index_graph.proofs.Moves.{arranged, grouped}
use Rattle.index_graph.proofs.components.arrange.Goals as goal

pub returns-clause-order : goal.returns-clause-order
returns-clause-order c =
    let v = c.loop-index.invariant in
    arranged c.args.edges.now c.loop-index.walk v.walk v.none (λ index l. v.found index (omega (arith, l, c.loop-index-test.false)))

pub returns-clause-groups : goal.returns-clause-groups
returns-clause-groups c =
    let v = c.loop-index.invariant in
    grouped c.args.edges.now c.loop-index.walk v.walk (arranged c.args.edges.now c.loop-index.walk v.walk v.none (λ index l. v.found index (omega (arith, l, c.loop-index-test.false))))
