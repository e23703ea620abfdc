use Rattle.std.proofs.Common.{◌∙◌, ap, length, sym}
use Rattle.std.proofs.lemmas.List.{length-map}
use Rattle.module_scope.proofs.modules.Modules.len.Goals as goal

pub returns : goal.returns
returns g c = c.len.ensures.len ∙ sym (length-map c.self.inside.names.entries _) ∙ ap (λ z. length z) c.self.view_is
