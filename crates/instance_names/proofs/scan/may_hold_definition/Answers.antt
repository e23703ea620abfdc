use Rattle.std.proofs.Common.{◌∙◌, ap, arith, length, sym, subst, ◌<◌}
use Rattle.std.specs.List.{AllByRecursion}
use Rattle.tla_tree.specs.Syntax.{trees}
use Rattle.module_model.specs.Instances.{named_instance}
use Rattle.instance_names.specs.Forms.{defined_in}
use Rattle.instance_names.specs.Collected.{parts_of}
use Rattle.instance_names.proofs.Collecting.{none-next}
use Rattle.instance_names.proofs.Giving.{none-named}
use Rattle.instance_names.proofs.scan.may_hold_definition.Goals as goal

pub loop-node-preserved : goal.loop-node-preserved
loop-node-preserved c =
    let node = c.loop-node.node in
    let within = c.loop-node-test.true in
    let end = c.len-node-end.ensures in
    let first = c.len.ensures in
    let few = c.if-len-gt4294967295.false in
    let there : node < length c.args.tree.now = omega (arith, within, end, first, few) in
    none-next named_instance c.args.tree.now node there (subst (AllByRecursion (λ child. child < node)) c.children-children.ensures.children c.children-children.ensures.before)
    (none-named _ (trees (parts_of c.args.tree.now node)) c.defined_in.result (c.defined_in.ensures ∙ ap defined_in c.form.ensures) (sym c.if-is_some.ensures)) c.loop-node.invariant
