use Rattle.std.proofs.Common.{arith, length, sym, ◌<◌}
use Rattle.module_model.specs.Instances.{path_start}
use Rattle.instance_names.proofs.Collecting.{none-next, nothing-given}
use Rattle.instance_names.proofs.scan.may_hold_path.Goals as goal

pub loop-node-preserved : goal.loop-node-preserved
loop-node-preserved c =
    let node = c.loop-node.node in
    let within = c.loop-node-test.true in
    let end = c.len-node-end.ensures in
    let first = c.len.ensures in
    let few = c.if-len-gt4294967295.false in
    let there : node < length c.args.tree.now = omega (arith, within, end, first, few) in
    none-next path_start c.args.tree.now node there c.path_start.ensures.before
    (nothing-given c.path_start.result c.path_start.ensures.start (sym c.if-is_some.ensures)) c.loop-node.invariant
