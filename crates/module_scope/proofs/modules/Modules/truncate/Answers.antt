use Rattle.std.proofs.Common.{◌∙◌, ap, sym, take}
use Rattle.std.proofs.lemmas.List.{take-map}
use Rattle.module_scope.specs.Entries.{environment_of}
use Rattle.module_scope.proofs.modules.Modules.truncate.Goals as goal

pub returns : goal.returns
returns g c = ap environment_of c.truncate.ensures.entries ∙ sym (take-map _ c.args.len c.self.inside.names.entries) ∙ ap (take c.args.len) c.self.view_is
