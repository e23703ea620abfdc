use Rattle.std.proofs.Common.{refl}
use Rattle.unit_steps.proofs.due.begin_claim.Goals as goal

pub returns-clause-moves : goal.returns-clause-moves
returns-clause-moves c nodes d us b i j = (record { reached = i; begun = j; below = rw c.new-below.ensures.items tt }, refl, refl)
