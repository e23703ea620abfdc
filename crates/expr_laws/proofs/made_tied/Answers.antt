use Rattle.expr_laws.proofs.CountingHeld.{step-held}
use Rattle.expr_laws.proofs.made_tied.Goals as goal

pub returns : goal.returns
returns c = step-held
