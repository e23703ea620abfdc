use Rattle.readable_laws.proofs.Accepting.{definition-reads}
use Rattle.readable_laws.proofs.accepted_definitions_are_read.Goals as goal

pub returns : goal.returns
returns c = definition-reads
