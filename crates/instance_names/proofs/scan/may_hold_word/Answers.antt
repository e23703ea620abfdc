use Rattle.std.proofs.Common.{◌∙◌, ap, arith, length, sym, subst, ◌<◌}
use Rattle.std.specs.List.{AllByRecursion}
use Rattle.instance_names.specs.Forms.{word_at, word_start}
use Rattle.instance_names.proofs.Collecting.{none-next, nothing-given}
use Rattle.instance_names.proofs.scan.may_hold_word.Goals as goal

pub loop-node-preserved : goal.loop-node-preserved
loop-node-preserved c =
    let node = c.loop-node.node in
    let within = c.loop-node-test.true in
    let end = c.len-node-end.ensures in
    let first = c.len.ensures in
    let few = c.if-len-gt4294967295.false in
    let there : node < length c.args.tree.now = omega (arith, within, end, first, few) in
    none-next word_at c.args.tree.now node there (subst (AllByRecursion (λ child. child < node)) c.children-children.ensures.children c.children-children.ensures.before)
    (nothing-given c.word_start.result (c.word_start.ensures ∙ ap word_start c.form.ensures) (sym c.if-is_some.ensures)) c.loop-node.invariant
