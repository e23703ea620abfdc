use Rattle.std.proofs.Common.{◌∙◌, ◌∷◌, ap, length, reverse, sym}
use Rattle.std.specs.Prelude.{None, map}
use Rattle.std.proofs.lemmas.List.{length-map, reverse-append}
use Rattle.module_scope.specs.Environments.{inside}
use Rattle.module_scope.specs.Kept.{kept_of, names_of, once}
use Rattle.module_scope.proofs.Keeping.{names-once, take-added}
use Rattle.module_scope.proofs.nesting.Nesting.enter.Goals as goal

pub returns : goal.returns
returns g c = λ scope at.
    let name = c.args.name.now in
    let old = c.args.self.now in
    let modules = c.len.ensures ∙ ap (λ z. length z) at.here in
    let names = c.len-2.ensures.len ∙ sym (length-map old.names.keys _) ∙ ap (λ z. length z) at.names in
    record {
      here = c.in_ok-add.ensures ∙ ap (λ z. inside z name) at.here;
      names = ap names_of c.in_ok-insert.ensures.keys ∙ names-once old.names.keys c.args.name ∙ ap (λ z. once z name) at.names;
      round = ap (λ z. map kept_of (reverse z)) c.in_ok-push.ensures.items ∙ ap (map kept_of) (reverse-append old.round.items _)
          ∙ (λ i. (name, modules i, names i) ∷ at.round i);
      fronts = (take-added scope.here name None, at.fronts);
    }
