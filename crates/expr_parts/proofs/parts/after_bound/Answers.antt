use Rattle.expr_kinds.proofs.Rows.{taken, passed}
use Rattle.expr_parts.proofs.parts.after_bound.Goals as goal

pub returns-then-is_comma : goal.returns-then-is_comma
returns-then-is_comma c = taken _ _ c.is_comma.ensures c.if-is_comma.true c.keeps.ensures

pub returns : goal.returns
returns c = passed _ _ c.is_comma.ensures c.if-is_comma.false c.if_goes.ensures
