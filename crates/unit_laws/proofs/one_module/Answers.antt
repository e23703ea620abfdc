use Rattle.unit_laws.proofs.UnitCompleteness.{one-module}
use Rattle.unit_laws.proofs.one_module.Goals as goal

pub returns : goal.returns
returns c = one-module
