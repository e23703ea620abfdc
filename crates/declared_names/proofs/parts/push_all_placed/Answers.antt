use Rattle.declared_names.proofs.Nodewise.{placed-onward}
use Rattle.declared_names.proofs.parts.push_all_placed.Goals as goal

pub loop-node-preserved : goal.loop-node-preserved
loop-node-preserved c =
    placed-onward c.args.tree.now c.args.nodes.now c.loop-node.node-index 0 c.loop-node-test.true c.args.binding c.loop-node.names c.push_placed.new.names _ c.form.result c.requires c.form.ensures c.in_ok-push_placed.ensures c.loop-node.invariant
