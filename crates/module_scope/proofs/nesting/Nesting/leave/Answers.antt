use Rattle.std.proofs.Common.{◌∙◌, ◌∷◌, [], ap, reverse, sym, take}
use Rattle.std.specs.Prelude.{map}
use Rattle.std.proofs.lemmas.List.{reverse-append, take-map}
use Rattle.module_scope.specs.Kept.{kept_of, names_of}
use Rattle.module_scope.proofs.Keeping.{out}
use Rattle.module_scope.proofs.nesting.Nesting.leave.Goals as goal

pub returns : goal.returns
returns g c = λ scope at.
    let old = c.args.self.now in
    let nested = c.in-Some.nested in
    let popped = ap (map kept_of) (sym (reverse-append c.pop.new.self.items (nested ∷ [])) ∙ ap reverse (sym c.in-Some.ensures.items)) ∙ at.round in
    let left = out scope.here scope.round nested.name.now nested.modules nested.round (map kept_of (reverse c.pop.new.self.items)) c.args.known c.truncate.new.self c.add.new.self (names_of c.truncate-2.new.self.keys) popped at.fronts
    (c.truncate.ensures ∙ ap (take nested.modules) at.here)
    (ap names_of c.truncate-2.ensures.keys ∙ sym (take-map _ nested.round old.names.keys) ∙ ap (take nested.round) at.names)
    c.in_ok-add.ensures
    in
    record { here = left.0; names = left.1; round = left.2; fronts = left.3 }
