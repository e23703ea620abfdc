use Rattle.expr_laws.proofs.Completing.{completes-expression}
use Rattle.expr_laws.proofs.unrefused_completes.Goals as goal

pub returns : goal.returns
returns c = completes-expression
