use Rattle.expr_laws.proofs.CompletingKinds.{Goal}
use Rattle.expr_laws.proofs.CompletingFirst.{refused-begun}
use Rattle.expr_laws.proofs.refuses_no_beginning_of_bounds.Goals as goal

pub returns : goal.returns
returns c = refused-begun Goal.ForBounds
