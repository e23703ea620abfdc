use Rattle.tree_flattener.proofs.Walking.{bare-onward}
use Rattle.tree_flattener.proofs.paths.is_bare.Goals as goal

pub loop-node-preserved : goal.loop-node-preserved
loop-node-preserved c =
    bare-onward c.args.tree.now c.args.nodes.now c.loop-node.node-index 0 c.loop-node-test.true c.requires c.loop-node.bare c.is_empty-bare.result c.children.result.now c.children.ensures.children c.children.ensures.before c.is_empty-bare.ensures c.loop-node.invariant
