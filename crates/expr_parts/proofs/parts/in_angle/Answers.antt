use Rattle.std.proofs.Common.{refl, ap, ◌∙◌}
use Rattle.expr_grammar.specs.Tables.{if_goes}
use Rattle.expr_kinds.proofs.Rows.{taken, passed}
use Rattle.expr_parts.proofs.parts.in_angle.Goals as goal

pub returns-then-is_comma : goal.returns-then-is_comma
returns-then-is_comma c = taken _ _ c.is_comma.ensures c.if-is_comma.true c.keeps.ensures

pub returns-then-is_right_angle : goal.returns-then-is_right_angle
returns-then-is_right_angle c = passed _ _ c.is_comma.ensures c.if-is_comma.false (taken _ _ c.is_right_angle.ensures c.if-is_right_angle.true c.done.ensures)

pub returns-then-is_right_angle_subscript : goal.returns-then-is_right_angle_subscript
returns-then-is_right_angle_subscript c = passed _ _ c.is_comma.ensures c.if-is_comma.false (passed _ _ c.is_right_angle.ensures c.if-is_right_angle.false (taken _ _ c.is_right_angle_subscript.ensures c.if-is_right_angle_subscript.true (c.if_goes.ensures ∙ ap (if_goes c.args.actions) c.keeps-then-is_right_angle_subscript.ensures)))

pub returns : goal.returns
returns c = passed _ _ c.is_comma.ensures c.if-is_comma.false (passed _ _ c.is_right_angle.ensures c.if-is_right_angle.false (passed _ _ c.is_right_angle_subscript.ensures c.if-is_right_angle_subscript.false refl))
