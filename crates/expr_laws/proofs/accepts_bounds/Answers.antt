use Rattle.expr_laws.proofs.Heading.{derives-bounds}
use Rattle.expr_laws.proofs.accepts_bounds.Goals as goal

pub returns : goal.returns
returns c = derives-bounds
