use Rattle.std.proofs.Common.{None, subst}
use Rattle.std.specs.Prelude.{IfSome}
use Rattle.family_levels.specs.Again.{IsVersionAnew}
use Rattle.family_levels.proofs.Making.{made-anew, made-placed}
use Rattle.family_levels.proofs.next.level_anew.Goals as goal

pub returns-in_default-clause-numbered : goal.returns-in_default-clause-numbered
returns-in_default-clause-numbered g c = c.numbers_stay.ensures c.args.known.tables.state.flat c.in_ok-known.known.tables.state.flat c.args.trees.now c.in_ok-known.ensures.next.grows.nodes c.requires.kept.ordered c.requires.numbered

pub returns-in_default-clause-made : goal.returns-in_default-clause-made
returns-in_default-clause-made g c =
    made-anew c.made_modules_stay.ensures c.laws_below.ensures.known.grows c.same_faces_look_alike.ensures c.laws_below.ensures.family c.laws_below.ensures.alike c.args.plan.now c.args.old.now c.args.versions.now c.args.outcomes.now c.args.numbers.now c.args.next c.args.name.now
    c.args.«module».now c.requires.some c.args.needs c.requires.needs c.args.known c.in_ok-known.known c.requires.kept.ordered c.in_ok-known.ensures.kept.ordered c.in_ok-known.found c.in_ok-known.ensures.next c.in_ok-known.ensures.exact None tt

pub in_place-requires-clause-numbered : goal.in_place-requires-clause-numbered
in_place-requires-clause-numbered g c = c.numbers_stay.ensures c.args.known.tables.state.flat c.in_ok-known.known.tables.state.flat c.args.trees.now c.in_ok-known.ensures.next.grows.nodes c.requires.kept.ordered c.requires.numbered

pub returns-clause-made : goal.returns-clause-made
returns-clause-made g c =
    let anew = subst (λ v. IfSome v (IsVersionAnew c.args.«module».now c.args.needs c.args.next c.in_ok-known.found)) c.in-Some.is c.in_ok-anew.ensures in
    made-placed c.made_modules_stay.ensures c.laws_below.ensures.known.grows c.same_faces_look_alike.ensures c.laws_below.ensures.family c.laws_below.ensures.alike c.args.plan.now c.args.old.now c.args.versions.now c.args.outcomes.now c.args.numbers.now c.args.next c.args.name.now
    c.args.«module».now c.requires.some c.args.needs c.requires.needs c.args.known c.in_ok-known.known c.requires.kept.ordered c.in_ok-known.ensures.kept.ordered c.in_ok-known.found c.in_ok-known.ensures.next c.in_ok-known.ensures.exact
    c.in-Some.anew anew c.in_ok-taken.taken c.in_ok-taken.version c.in_ok-taken.ensures.placed
