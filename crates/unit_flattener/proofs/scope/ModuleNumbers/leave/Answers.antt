use Rattle.std.proofs.Common.{◌∙◌, ◌∷◌, [], ap, reverse, sym, take}
use Rattle.std.specs.Prelude.{map}
use Rattle.std.proofs.lemmas.List.{reverse-append}
use Rattle.unit_flattener.specs.Scopes.{kept_of}
use Rattle.unit_flattener.proofs.Scoping.{out}
use Rattle.unit_flattener.proofs.scope.ModuleNumbers.leave.Goals as goal

pub returns : goal.returns
returns c = λ scope at.
    let before = c.in-Some.before in
    let popped = ap (map kept_of) (sym (reverse-append c.pop.new.self.items (before ∷ [])) ∙ ap reverse (sym c.in-Some.ensures.items)) ∙ at.round in
    let left = out scope.here scope.round before.name.now before.modules (map kept_of (reverse c.pop.new.self.items)) c.args.face c.truncate.new.self c.add.new.self popped at.fronts
    (c.truncate.ensures ∙ ap (take before.modules) at.here) c.in_ok-add.ensures
    in
    record { here = left.0; round = left.1; fronts = left.2 }
