use Rattle.std.proofs.Common.{refl}
use Rattle.expr_kinds.proofs.Rows.{taken, passed, tested}
use Rattle.expr_moves.proofs.moves.at_places_read.Goals as goal

pub returns-then-is_comma : goal.returns-then-is_comma
returns-then-is_comma c = taken _ _ c.is_comma.ensures c.if-is_comma.true refl

pub returns : goal.returns
returns c = passed _ _ c.is_comma.ensures c.if-is_comma.false (tested _ c.if_move.ensures c.is_right_paren.ensures refl)
