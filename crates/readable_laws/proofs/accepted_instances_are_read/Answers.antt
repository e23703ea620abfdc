use Rattle.readable_laws.proofs.Accepting.{instance-reads}
use Rattle.readable_laws.proofs.accepted_instances_are_read.Goals as goal

pub returns : goal.returns
returns c = instance-reads
