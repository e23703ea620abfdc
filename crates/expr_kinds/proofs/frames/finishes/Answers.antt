use Rattle.expr_kinds.proofs.Rows.{taken, passed}
use Rattle.expr_kinds.proofs.frames.finishes.Goals as goal

pub returns-then-is_expression : goal.returns-then-is_expression
returns-then-is_expression c = taken _ _ c.is_expression.ensures c.if-is_expression.true c.ends_with.ensures

pub returns-else-is_expression : goal.returns-else-is_expression
returns-else-is_expression c = passed _ _ c.is_expression.ensures c.if-is_expression.false c.ends_with_part.ensures
