use Rattle.std.proofs.Common.{refl}
use Rattle.expr_kinds.proofs.Rows.{taken, passed, tested}
use Rattle.expr_moves.proofs.moves.at_binding_read.Goals as goal

pub returns-then-is_comma : goal.returns-then-is_comma
returns-then-is_comma c = taken _ _ c.is_comma.ensures c.if-is_comma.true (tested _ c.if_move.ensures c.takes_more.ensures refl)

pub returns-then-is_member : goal.returns-then-is_member
returns-then-is_member c = passed _ _ c.is_comma.ensures c.if-is_comma.false (taken _ _ c.is_member.ensures c.if-is_member.true (tested _ c.if_move-then-is_member.ensures c.takes_set.ensures refl))

pub returns : goal.returns
returns c = passed _ _ c.is_comma.ensures c.if-is_comma.false (passed _ _ c.is_member.ensures c.if-is_member.false refl)
