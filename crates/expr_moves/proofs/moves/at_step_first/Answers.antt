use Rattle.std.proofs.Common.{refl}
use Rattle.expr_kinds.proofs.Rows.{taken, passed, tested}
use Rattle.expr_moves.proofs.moves.at_step_first.Goals as goal

pub returns-then-is_dot : goal.returns-then-is_dot
returns-then-is_dot c = taken _ _ c.is_dot.ensures c.if-is_dot.true refl

pub returns : goal.returns
returns c = passed _ _ c.is_dot.ensures c.if-is_dot.false (tested _ c.if_move.ensures c.is_left_bracket.ensures refl)
