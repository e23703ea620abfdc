use Rattle.std.proofs.Common.{◌∙◌, ap}
use Rattle.module_scope.specs.Environments.{is_taken}
use Rattle.instance_leads.specs.Leading.{views}
use Rattle.unit_scope.proofs.Taking.{views-taken}
use Rattle.unit_scope.proofs.reading.Reading.is_named.Goals as goal

pub returns : goal.returns
returns c = λ nested. c.is_taken.ensures ∙ views-taken nested c.args.self.now.modules c.spelled.result.now ∙ ap (is_taken (views nested c.args.self.now.modules)) c.spelled.ensures
