use Rattle.tree_flattener.proofs.Walking.{last-onward}
use Rattle.tree_flattener.proofs.paths.last_segment.Goals as goal

pub loop-node-preserved : goal.loop-node-preserved
loop-node-preserved c =
    last-onward c.args.tree.now c.args.nodes.now c.loop-node.node-index 0 c.loop-node-test.true c.requires c.form.result c.segment_of.result c.loop-node.last c.next_segment-last.result c.form.ensures c.segment_of.ensures c.next_segment-last.ensures c.loop-node.invariant
