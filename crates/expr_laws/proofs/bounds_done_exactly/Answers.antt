use Rattle.expr_laws.proofs.Stopping.{done-bounds, bounds-done}
use Rattle.expr_laws.proofs.bounds_done_exactly.Goals as goal

pub returns : goal.returns
returns c = record { done = done-bounds; all = bounds-done }
