use Rattle.unit_laws.proofs.Holding.{holds-few}
use Rattle.unit_laws.proofs.few_held.Goals as goal

pub returns : goal.returns
returns c = holds-few
