use Rattle.std.proofs.Common.{refl}
use Rattle.expr_kinds.proofs.Rows.{taken, passed, tested}
use Rattle.expr_moves.proofs.moves.at_binding_start.Goals as goal

pub returns-then-is_name : goal.returns-then-is_name
returns-then-is_name c = taken _ _ c.is_name.ensures c.if-is_name.true refl

pub returns-then-is_left_angle : goal.returns-then-is_left_angle
returns-then-is_left_angle c = passed _ _ c.is_name.ensures c.if-is_name.false (taken _ _ c.is_left_angle.ensures c.if-is_left_angle.true (tested _ c.if_move.ensures c.takes_set.ensures refl))

pub returns : goal.returns
returns c = passed _ _ c.is_name.ensures c.if-is_name.false (passed _ _ c.is_left_angle.ensures c.if-is_left_angle.false refl)
