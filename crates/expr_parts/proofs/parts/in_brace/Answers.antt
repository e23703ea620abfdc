use Rattle.expr_kinds.proofs.Rows.{taken, passed}
use Rattle.expr_parts.proofs.parts.in_brace.Goals as goal

pub returns-then-is_right_brace : goal.returns-then-is_right_brace
returns-then-is_right_brace c = taken _ _ c.is_right_brace.ensures c.if-is_right_brace.true c.done.ensures

pub returns-then-is_comma : goal.returns-then-is_comma
returns-then-is_comma c = passed _ _ c.is_right_brace.ensures c.if-is_right_brace.false (taken _ _ c.is_comma.ensures c.if-is_comma.true c.keeps.ensures)

pub returns : goal.returns
returns c = passed _ _ c.is_right_brace.ensures c.if-is_right_brace.false (passed _ _ c.is_comma.ensures c.if-is_comma.false (c.after_brace.ensures))
