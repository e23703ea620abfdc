use Rattle.std.proofs.Common.{ap, sym, ◌∙◌}
use Rattle.tla_tree.specs.Syntax.{form}
use Rattle.tla_tree.proofs.Nodes.{tree_at-form}
use Rattle.expr_parse.proofs.Renaming.{bound-named, bound-tuple}
use Rattle.expr_parse.proofs.convert.bound_of.Goals as goal

pub returns-then-is_tuple : goal.returns-then-is_tuple
returns-then-is_tuple c spelled span =
    bound-tuple _ _ _ c.args.operands.left c.args.operands.right _ _ c.push.new.self.items c.args.span _ spelled
    (ap form (tree_at-form _ c.args.operands.left c.requires.left).1 ∙ (sym c.form.ensures ∙ c.is_tuple.ensures.0 c.if-is_tuple.true)) c.requires.right c.in_ok-parts.ensures c.in_ok-push.ensures.items
    (rw (← c.as_slice.ensures.value) c.in_ok-bound.ensures.ok) c.covered.ensures c.in_ok-bound.ensures.number span

pub returns : goal.returns
returns c spelled span =
    bound-named _ _ _ c.args.operands.left c.args.operands.right _ _ c.args.span _ spelled
    (λ e. let q = c.is_tuple.ensures.1 (c.form.ensures ∙ (sym (ap form (tree_at-form _ c.args.operands.left c.requires.left).1) ∙ e)) in let f = c.if-is_tuple.false in cc)
    c.requires.right c.in_ok-name.ensures c.in_ok-bound-2.ensures.ok c.covered-2.ensures c.in_ok-bound-2.ensures.number span
