use Rattle.module_interfaces.proofs.Projecting.{state-part}
use Rattle.module_interfaces.proofs.facts_are_leveled.Goals as goal

pub returns : goal.returns
returns c texts name = state-part texts name
