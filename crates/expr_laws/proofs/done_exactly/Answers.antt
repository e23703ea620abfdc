use Rattle.expr_laws.proofs.Stopping.{done-derives, derives-done}
use Rattle.expr_laws.proofs.done_exactly.Goals as goal

pub returns : goal.returns
returns c = record { done = done-derives; all = derives-done }
