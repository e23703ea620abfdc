use Rattle.expr_kinds.proofs.Rows.{taken, passed}
use Rattle.expr_parts.proofs.parts.after.Goals as goal

pub returns-then-is_expression : goal.returns-then-is_expression
returns-then-is_expression c = taken _ _ c.is_expression.ensures c.if-is_expression.true c.after_expression.ensures

pub returns : goal.returns
returns c = passed _ _ c.is_expression.ensures c.if-is_expression.false (c.after_part.ensures)
