use Rattle.std.proofs.Common.{◌≡◌, ◌∙◌, ap, false, is_some, refl, subst, sym, true}
use Rattle.std.specs.Prelude.{IfSome}
use Rattle.family_levels.specs.Again.{AreNeeds, IsFoundAgain, NeedAll}
use Rattle.family_levels.proofs.Following.{again-leveled, again-placed}
use Rattle.family_levels.proofs.Lasting.{grows-none}
use Rattle.family_levels.proofs.next.level_next.Goals as goal

pub returns-in-Some-clause-made : goal.returns-in-Some-clause-made
returns-in-Some-clause-made g c =
    let asked = subst (λ needs. IfSome c.in_ok-needs.needs (AreNeeds c.args.plan.now c.args.outcomes.now c.args.versions.now c.args.name.now needs)) c.as_slice.ensures c.in_ok-needs.ensures.are in
    record {
      grows = grows-none c.args.known;
      placed = λ shown are placed.
          again-placed c.one_front.ensures.same c.args.plan.now c.args.outcomes.now c.args.numbers.now shown c.args.next c.args.old.now c.args.versions.now placed c.args.name.now c.args.«module».now c.requires.some
          c.in_ok-needs.needs c.args.known are asked c.in-Some.version.now c.in_ok-version.version c.in_ok-found.found c.in-Some.ensures.is c.in_ok-version.ensures c.in_ok-found.ensures;
      leveled = λ family shown are placed ready member.
          again-leveled c.one_front.ensures.same c.args.plan.now c.args.outcomes.now c.args.numbers.now shown c.args.next c.args.old.now c.args.versions.now placed c.args.name.now c.args.«module».now c.requires.some
          c.in_ok-needs.needs c.args.known are asked c.in-Some.version.now c.in_ok-version.version c.in_ok-found.found c.in-Some.ensures.is c.in_ok-version.ensures c.in_ok-found.ensures
          c.laws_below.ensures.known c.laws_below.ensures.alike c.laws_below.ensures.family family ready member c.requires.unfound c.requires.kept.ordered;
    }

pub level_anew-requires-clause-needs : goal.level_anew-requires-clause-needs
level_anew-requires-clause-needs g c = subst (λ needs. IfSome c.in_ok-needs.needs (AreNeeds c.args.plan.now c.args.outcomes.now c.args.versions.now c.args.name.now needs)) c.as_slice.ensures c.in_ok-needs.ensures.are

pub returns-clause-again : goal.returns-clause-again
returns-clause-again g c modules planned all current =
    let needs = c.args.«module».now.needs in
    let told = c.in_ok-needs.ensures.all modules planned (subst (NeedAll modules c.args.name.now) (sym c.as_slice.ensures) all) current.version.needs
    (subst (λ ns. AreNeeds c.args.plan.now c.args.outcomes.now c.args.versions.now c.args.name.now ns current.version.needs) (sym c.as_slice.ensures) current.needed) in
    let again : IsFoundAgain c.args.old.now c.args.name.now c.args.«module».now c.in_ok-needs.needs current.version = record {
      tree = current.tree;
      reads = current.reads;
      needed = current.version.needs;
      over = told;
      there = current.there;
      is = record { same = current.same; over = refl };
    } in
    let never : false ≡ true = sym (ap is_some c.in_default.is) ∙ c.found_version.ensures.found current.version again in
    absurd (cc never)
