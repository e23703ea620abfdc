use Rattle.expr_laws.proofs.Complete.{refused-ends}
use Rattle.expr_laws.proofs.refuses_no_beginning.Goals as goal

pub returns : goal.returns
returns c = refused-ends
