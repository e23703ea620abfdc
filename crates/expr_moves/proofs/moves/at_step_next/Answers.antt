use Rattle.std.proofs.Common.{refl}
use Rattle.expr_kinds.proofs.Rows.{taken, passed, tested}
use Rattle.expr_moves.proofs.moves.at_step_next.Goals as goal

pub returns-then-is_dot : goal.returns-then-is_dot
returns-then-is_dot c = taken _ _ c.is_dot.ensures c.if-is_dot.true refl

pub returns-then-is_left_bracket : goal.returns-then-is_left_bracket
returns-then-is_left_bracket c = passed _ _ c.is_dot.ensures c.if-is_dot.false (taken _ _ c.is_left_bracket.ensures c.if-is_left_bracket.true refl)

pub returns : goal.returns
returns c = passed _ _ c.is_dot.ensures c.if-is_dot.false (passed _ _ c.is_left_bracket.ensures c.if-is_left_bracket.false (tested _ c.if_move.ensures c.is_equal.ensures refl))
