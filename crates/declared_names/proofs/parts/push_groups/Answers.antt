use Rattle.declared_names.proofs.Nodewise.{grouped-onward}
use Rattle.declared_names.proofs.parts.push_groups.Goals as goal

pub loop-node-preserved : goal.loop-node-preserved
loop-node-preserved c =
    grouped-onward c.args.tree.now c.args.nodes.now c.loop-node.node-index 0 c.loop-node-test.true c.args.binding c.loop-node.names c.push_group.new.names _ c.in_ok-push_group.ensures c.loop-node.invariant
