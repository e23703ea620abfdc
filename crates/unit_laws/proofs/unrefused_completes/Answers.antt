use Rattle.unit_laws.proofs.FirstBad.{unrefused-completes}
use Rattle.unit_laws.proofs.unrefused_completes.Goals as goal

pub returns : goal.returns
returns c = unrefused-completes
