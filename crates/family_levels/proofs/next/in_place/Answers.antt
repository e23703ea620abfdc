use Rattle.std.proofs.Common.{◌≡◌, ◌∙◌, Some, ap, false, is_some, refl, subst, sym, true}
use Rattle.std.specs.Prelude.{IfSome}
use Rattle.family_tables.specs.Tables.{entry_of}
use Rattle.family_levels.specs.Again.{Anew, IsLike, Taken}
use Rattle.family_levels.proofs.next.in_place.Goals as goal

pub returns-in_default-clause-placed : goal.returns-in_default-clause-placed
returns-in_default-clause-placed c = Anew refl refl

pub returns-clause-placed : goal.returns-clause-placed
returns-clause-placed c =
    let before = c.in-Some.before.now in
    let like = subst (λ v. IfSome v (λ w. (entry_of c.args.old.now c.args.name.now ≡ Some w.now) × IsLike c.args.known.now w.now c.args.found)) c.in-Some.is c.in_ok-before.ensures.like in
    Taken before like.0 like.1 c.in_ok-found.ensures c.in_ok-version.ensures

pub returns-in_default-clause-stays : goal.returns-in_default-clause-stays
returns-in_default-clause-stays c id stays = let never : false ≡ true = sym (ap is_some c.in_default.is) ∙ c.in_ok-before.ensures.stays id stays in absurd (cc never)
