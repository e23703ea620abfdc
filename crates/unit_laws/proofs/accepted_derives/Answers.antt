use Rattle.unit_laws.proofs.Soundness.{accepted-derives}
use Rattle.unit_laws.proofs.accepted_derives.Goals as goal

pub returns : goal.returns
returns c = accepted-derives
