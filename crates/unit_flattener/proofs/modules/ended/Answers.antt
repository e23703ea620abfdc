use Rattle.std.proofs.Common.{◌∙◌, ap}
use Rattle.module_leads.specs.Leading.{leading_in}
use Rattle.unit_flattener.proofs.modules.ended.Goals as goal

pub returns-clause-known : goal.returns-clause-known
returns-clause-known c = ap leading_in c.into_tables.ensures.leads ∙ c.in_ok-face.ensures.known
