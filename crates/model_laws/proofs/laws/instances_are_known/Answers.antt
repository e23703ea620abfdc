use Rattle.model_laws.proofs.Settling.{settled-after, settled-first}
use Rattle.model_laws.proofs.laws.instances_are_known.Goals as goal

pub returns : goal.returns
returns c = record { begun = settled-first; kept = settled-after }
