use Rattle.std.proofs.Common.{arith}
use Rattle.found_levels.proofs.Covering.{least_more, min-under, one-of}
use Rattle.found_levels.proofs.stretches.least_first.Goals as goal

pub loop-node-preserved : goal.loop-node-preserved
loop-node-preserved c =
    let inv = c.loop-node.invariant in let k = c.loop-node.node-index in let nodes = c.args.nodes.now in
    let under = min-under c.loop-node.least c.first_node.result c.min-least.result c.min-least.ensures in record {
      least = omega (arith, under.0, inv.least);
      each = λ flat h there.
          least_more flat c.loop-node.least c.first_node.result c.min-least.result k nodes c.loop-node-test.true
          (c.first_node.ensures flat h (one-of _ nodes k c.loop-node-test.true there)) under.0 under.1 (inv.each flat h there);
    }
