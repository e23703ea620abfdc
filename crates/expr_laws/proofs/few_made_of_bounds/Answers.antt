use Rattle.expr_laws.proofs.CountingMade.{made-bounds-few}
use Rattle.expr_laws.proofs.CountingHeld.{bounds-made}
use Rattle.expr_laws.proofs.few_made_of_bounds.Goals as goal

pub returns : goal.returns
returns c = record { few = made-bounds-few; counted = bounds-made }
