use Rattle.unit_laws.proofs.Ending.{derivable-or-bad}
use Rattle.unit_laws.proofs.derivable_or_bad.Goals as goal

pub returns : goal.returns
returns c = derivable-or-bad
