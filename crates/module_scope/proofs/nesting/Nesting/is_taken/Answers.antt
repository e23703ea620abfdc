use Rattle.std.proofs.Common.{◌∙◌, ap}
use Rattle.module_scope.specs.Environments.{is_taken}
use Rattle.module_scope.proofs.nesting.Nesting.is_taken.Goals as goal

pub returns : goal.returns
returns g c = λ scope at. c.is_taken.ensures ∙ ap (λ z. is_taken z c.args.name.now) at.here
