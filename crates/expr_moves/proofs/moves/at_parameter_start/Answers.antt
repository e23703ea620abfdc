use Rattle.std.proofs.Common.{refl}
use Rattle.expr_kinds.proofs.Rows.{taken, passed, tested}
use Rattle.expr_moves.proofs.moves.at_parameter_start.Goals as goal

pub returns-then-is_name : goal.returns-then-is_name
returns-then-is_name c = taken _ _ c.is_name.ensures c.if-is_name.true refl

pub returns-then-is_negative : goal.returns-then-is_negative
returns-then-is_negative c = passed _ _ c.is_name.ensures c.if-is_name.false (taken _ _ c.is_negative.ensures c.if-is_negative.true refl)

pub returns : goal.returns
returns c = passed _ _ c.is_name.ensures c.if-is_name.false (passed _ _ c.is_negative.ensures c.if-is_negative.false (tested _ c.if_move.ensures c.is_underscore.ensures refl))
