use Rattle.expr_laws.proofs.CountingMade.{made-few}
use Rattle.expr_laws.proofs.CountingHeld.{nodes-made}
use Rattle.expr_laws.proofs.few_made.Goals as goal

pub returns : goal.returns
returns c = record { few = made-few; counted = nodes-made }
