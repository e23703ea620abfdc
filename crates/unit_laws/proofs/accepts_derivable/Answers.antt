use Rattle.unit_laws.proofs.UnitCompleteness.{derives-parses}
use Rattle.unit_laws.proofs.accepts_derivable.Goals as goal

pub returns : goal.returns
returns c = derives-parses
