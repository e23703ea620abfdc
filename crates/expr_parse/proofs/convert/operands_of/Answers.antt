use Rattle.std.proofs.Common.{◌<◌, ap, sym, subst, ◌∙◌}
use Rattle.std.specs.Prelude.{map}
use Rattle.std.specs.List.{AllByRecursion}
use Rattle.tla_tree.specs.Arena.{node_at, tree_at}
use Rattle.tla_tree.specs.Syntax.{Node, trees, form}
use Rattle.tla_tree.proofs.Nodes.{before-there, tree_at-form, tree_at-node}
use Rattle.expr_parse.specs.TurnMeaning.{AreOperands, AreTwo}
use Rattle.expr_parse.proofs.Renaming.{infix-operands, other-operands}
use Rattle.expr_parse.proofs.convert.operands_of.Goals as goal

pub returns-in-Infix : goal.returns-in-Infix
returns-in-Infix c =
    let nodes = c.args.tree.now in
    let node = node_at nodes c.args.node in
    let before = subst (λ ks. AllByRecursion (λ child. child < c.args.node) ks) c.children.ensures.children c.children.ensures.before in
    let is = tree_at-node nodes c.args.node c.requires before ∙ ap (λ f. Node f node.span (trees (map (tree_at nodes) node.children))) (sym c.in-Infix.ensures) in
    subst (AreOperands nodes c.two.result) (sym is)
    (infix-operands nodes c.two.result c.in-Infix.field-0 node.span node.children (subst (AreTwo c.two.result) c.children.ensures.children c.two.ensures) (before-there nodes c.args.node node.children c.requires before))

pub returns-in_default : goal.returns-in_default
returns-in_default c = other-operands c.args.tree.now _ (λ t e. c.in_default.not-Infix t (c.form.ensures ∙ (sym (ap form (tree_at-form c.args.tree.now c.args.node c.requires).1) ∙ e)))
