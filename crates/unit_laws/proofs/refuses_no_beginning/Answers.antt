use Rattle.unit_laws.proofs.UnitCompleteness.{refused-ends}
use Rattle.unit_laws.proofs.refuses_no_beginning.Goals as goal

pub returns : goal.returns
returns c = refused-ends
