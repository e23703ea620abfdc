use Rattle.std.proofs.Common.{◌∙◌, ap}
use Rattle.std.specs.Prelude.{is_some}
use Rattle.module_scope.specs.Environments.{is_taken}
use Rattle.module_scope.proofs.Keeping.{found-kept}
use Rattle.module_scope.proofs.modules.Modules.is_taken.Goals as goal

pub returns : goal.returns
returns g c = c.contains_key.ensures ∙ ap is_some (found-kept c.self.inside.names.entries c.args.name.now) ∙ ap (λ z. is_taken z c.args.name.now) c.self.view_is
