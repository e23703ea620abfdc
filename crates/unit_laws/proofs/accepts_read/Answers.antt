use Rattle.unit_laws.proofs.Ending.{accepts-read}
use Rattle.unit_laws.proofs.accepts_read.Goals as goal

pub returns : goal.returns
returns c = accepts-read
