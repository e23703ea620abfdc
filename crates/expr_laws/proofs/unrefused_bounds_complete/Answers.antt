use Rattle.expr_laws.proofs.Completing.{completes-bounds}
use Rattle.expr_laws.proofs.unrefused_bounds_complete.Goals as goal

pub returns : goal.returns
returns c = completes-bounds
