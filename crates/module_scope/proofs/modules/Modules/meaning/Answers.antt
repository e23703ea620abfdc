use Rattle.std.proofs.Common.{◌∙◌, ap}
use Rattle.module_scope.specs.Environments.{meaning}
use Rattle.module_scope.proofs.Keeping.{found-kept}
use Rattle.module_scope.proofs.modules.Modules.meaning.Goals as goal

pub returns : goal.returns
returns g c = c.get.ensures.value ∙ found-kept c.self.inside.names.entries c.args.name.now ∙ ap (λ z. meaning z c.args.name.now) c.self.view_is
