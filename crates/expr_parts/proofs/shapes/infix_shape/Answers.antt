use Rattle.std.proofs.Common.{sym, ◌∙◌}
use Rattle.tla_tree.specs.Arena.{tree_at}
use Rattle.expr_parts.proofs.Shaping.{infix-few, infix-many, infix-member}
use Rattle.expr_parts.proofs.shapes.infix_shape.Goals as goal

pub returns-then-is_binder : goal.returns-then-is_binder
returns-then-is_binder c =
    infix-member (tree_at c.args.tree.now) c.args.symbol c.args.operands.now c.in-len2.len_at_least c.in-len2.len_below (sym c.is_member.ensures ∙ c.if-is_member.true) (sym c.is_binder.ensures ∙ c.if-is_binder.true)

pub returns-in_default : goal.returns-in_default
returns-in_default c = infix-few (tree_at c.args.tree.now) c.args.symbol c.args.operands.now c.in_default.len_below

pub returns-in_default-2 : goal.returns-in_default-2
returns-in_default-2 c = infix-many (tree_at c.args.tree.now) c.args.symbol c.args.operands.now c.in_default.len_at_least
