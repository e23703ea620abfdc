use Rattle.family_facts.proofs.Once.{family-placed}
use Rattle.family_facts.proofs.laws.names_differ.Goals as goal

pub returns : goal.returns
returns c = family-placed
