use Rattle.declared_names.proofs.Nodewise.{orders-onward}
use Rattle.declared_names.proofs.parts.orders.Goals as goal

pub loop-node-preserved : goal.loop-node-preserved
loop-node-preserved c =
    orders-onward c.args.tree.now c.args.nodes.now c.loop-node.node-index 0 c.loop-node-test.true c.loop-node.orders c.push_order.new.orders _ c.form.result c.requires c.form.ensures c.in_ok-push_order.ensures c.loop-node.invariant
