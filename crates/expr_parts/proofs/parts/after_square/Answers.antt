use Rattle.std.proofs.Common.{ap, ◌∙◌}
use Rattle.expr_grammar.specs.Tables.{if_goes}
use Rattle.expr_kinds.proofs.Rows.{taken, passed, tested}
use Rattle.expr_parts.proofs.parts.after_square.Goals as goal

pub returns-then-is_arrow : goal.returns-then-is_arrow
returns-then-is_arrow c = taken _ _ c.is_arrow.ensures c.if-is_arrow.true c.keeps.ensures

pub returns-then-is_right_bracket_subscript : goal.returns-then-is_right_bracket_subscript
returns-then-is_right_bracket_subscript c = passed _ _ c.is_arrow.ensures c.if-is_arrow.false (taken _ _ c.is_right_bracket_subscript.ensures c.if-is_right_bracket_subscript.true (c.if_goes.ensures ∙ ap (if_goes c.args.actions) c.keeps-then-is_right_bracket_subscript.ensures))

pub returns : goal.returns
returns c = passed _ _ c.is_arrow.ensures c.if-is_arrow.false (passed _ _ c.is_right_bracket_subscript.ensures c.if-is_right_bracket_subscript.false (tested _ c.if_goes-2.ensures c.is_except.ensures c.keeps-2.ensures))
