use Rattle.std.proofs.Common.{◌∙◌, ◌∷◌, ap, length, reverse}
use Rattle.std.specs.Prelude.{None, map}
use Rattle.std.proofs.lemmas.List.{reverse-append}
use Rattle.module_scope.specs.Environments.{inside}
use Rattle.module_scope.proofs.Keeping.{take-added}
use Rattle.unit_flattener.specs.Scopes.{kept_of}
use Rattle.unit_flattener.proofs.scope.ModuleNumbers.enter.Goals as goal

pub returns : goal.returns
returns c = λ scope at.
    let name = c.args.name.now in
    let old = c.args.self.now in
    let modules = c.len.ensures ∙ ap (λ z. length z) at.here in
    record {
      here = c.in_ok-add.ensures ∙ ap (λ z. inside z name) at.here;
      round = ap (λ z. map kept_of (reverse z)) c.in_ok-push.ensures.items ∙ ap (map kept_of) (reverse-append old.round.items _)
          ∙ (λ i. (name, modules i) ∷ at.round i);
      fronts = (take-added scope.here name None, at.fronts);
    }
