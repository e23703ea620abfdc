use Rattle.kind_table.specs.Flattened.{number_in}
use Rattle.level_text.specs.Depth as text
use Rattle.node_depths.proofs.Greatest.{greatest-push, most_more}
use Rattle.node_depths.proofs.nodes.greatest.Goals as goal

pub loop-node-preserved : goal.loop-node-preserved
loop-node-preserved c =
    let f = number_in c.args.depths.now in
    most_more (text.greatest f) f (greatest-push f) c.args.nodes.now c.loop-node.node-index 0 c.loop-node.most c.depth_at.result c.max-most.result c.loop-node-test.true c.loop-node.invariant c.depth_at.ensures.value c.depth_at.ensures.small c.max-most.ensures
