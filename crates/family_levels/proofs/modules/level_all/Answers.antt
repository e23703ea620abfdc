use Rattle.std.proofs.Common.{◌≡◌, ◌<◌, ◌≤◌, ◌∙◌, List, [], Some, ap, arith, subst, sym, length, get_or}
use Rattle.std.proofs.lemmas.List.{take_all}
use Rattle.std.specs.Prelude.{sum_by}
use Rattle.family_facts.specs.Facts.{texts_of}
use Rattle.family_facts.specs.Family.{AreMembersDistinct, Member}
use Rattle.family_facts.specs.Verdicts.{after_checks}
use Rattle.family_tables.specs.Agreement.{AreAgreed}
use Rattle.family_tables.specs.Modules.{AreModules}
use Rattle.family_tables.specs.Outcomes.{trees_of}
use Rattle.family_tables.specs.Tables.{entry_of, names_in}
use Rattle.family_tables.proofs.Agreeing.{agreed-more}
use Rattle.family_tables.proofs.Ordered.{entries-all, found-more, member-here, module-here, ordered-fresh, ordered-names, ordered-there, steps-more, steps-most, trees-all}
use Rattle.leveled_facts.specs.Families.{declares}
use Rattle.family_levels.specs.Again.{IsNextLeveled}
use Rattle.family_levels.specs.Exactness.{AreExact}
use Rattle.family_levels.specs.Leveling.{AreLeveled, Says, names_on}
use Rattle.family_levels.proofs.Adding.{none-more, old-more, placed-more, versions-more}
use Rattle.family_levels.proofs.Exactly.{exact-more}
use Rattle.family_levels.proofs.Growing.{agreed-none, leveled-more, leveled-none, numbers-more, ready-here}
use Rattle.family_levels.proofs.modules.level_all.Goals as goal

pub loop-name-init : goal.loop-name-init
loop-name-init g c =
    let count = c.count-count.type_inv in
    let same = c.count-count.ensures in
    record {
      names = ap names_in c.new-outcomes.ensures;
      listed = ap names_in c.new-names.ensures;
      agreed = subst AreAgreed (sym c.new-outcomes.ensures) agreed-none;
      exact = subst AreExact (sym c.new-outcomes.ensures) (λ name face found. absurd (cc found));
      kept = c.requires.kept;
      numbered = c.requires.numbered;
      numbers = λ name number at. absurd (cc (sym (ap (λ z. entry_of z name) c.new-numbers.ensures) ∙ at));
      only = λ name none. ap (λ z. entry_of z name) c.new-numbers.ensures;
      unversioned = λ name none. ap (λ z. entry_of z name) c.new-versions.ensures;
      shown = c.requires.held.0;
      placed = λ name version at. absurd (cc (sym (ap (λ z. entry_of z name) c.new-versions.ensures) ∙ at));
      before = c.requires.held.1;
      versions_so = λ family distinct are name version at. absurd (cc (sym (ap (λ z. entry_of z name) c.new-versions.ensures) ∙ at));
      leveled_so = λ family distinct are.
          subst (λ outcomes. AreLeveled family outcomes c.new-numbers.result c.args.nodes.known) (sym c.new-outcomes.ensures)
          (subst (λ numbers. AreLeveled family [] numbers c.args.nodes.known) (sym c.new-numbers.ensures) (leveled-none family c.args.nodes.known (c.made_modules_are_known.ensures.begins (declares (texts_of family)))));
      owned = λ family distinct are name own at. absurd (cc (sym (ap (λ z. entry_of z name) c.new-names.ensures) ∙ at));
      most = omega (arith, count, same);
      all = λ none. omega (arith, count, same);
    }

pub unreachable-requires : goal.unreachable-requires
unreachable-requires g c =
    let i = c.loop-name.name-index in
    let order = c.args.plan.now.order in
    let within : i < length order = subst (λ ns. i < length ns) c.as_slice-name-items.ensures c.loop-name-test.true in
    let is = c.as_str-name.ensures ∙ (c.name-item.is ∙ ap (λ ns. get_or ns i c.name-item.result) c.as_slice-name-items.ensures) in
    ordered-there c.args.modules.now c.args.plan.now c.requires.plan i c.name-item.result c.as_str-name.result.now within is (sym c.in_default.ensures)

pub level_next-requires-clause-some : goal.level_next-requires-clause-some
level_next-requires-clause-some g c = module-here c.args.modules.now c.as_str-name.result.now c.in-Some.«module».now c.requires.read (sym c.in-Some.ensures)

pub level_next-requires-clause-unfound : goal.level_next-requires-clause-unfound
level_next-requires-clause-unfound g c =
    let i = c.loop-name.name-index in
    let order = c.args.plan.now.order in
    let within : i < length order = subst (λ ns. i < length ns) c.as_slice-name-items.ensures c.loop-name-test.true in
    let is = c.as_str-name.ensures ∙ (c.name-item.is ∙ ap (λ ns. get_or ns i c.name-item.result) c.as_slice-name-items.ensures) in
    ordered-fresh c.args.modules.now c.args.plan.now c.requires.plan i c.name-item.result c.as_str-name.result.now within is c.loop-name.outcomes c.loop-name.invariant.names

pub add-requires : goal.add-requires
add-requires g c =
    let i = c.loop-name.name-index in
    let order = c.args.plan.now.order in
    let within : i < length order = subst (λ ns. i < length ns) c.as_slice-name-items.ensures c.loop-name-test.true in
    let is = c.as_str-name.ensures ∙ (c.name-item.is ∙ ap (λ ns. get_or ns i c.name-item.result) c.as_slice-name-items.ensures) in
    ordered-fresh c.args.modules.now c.args.plan.now c.requires.plan i c.name-item.result c.as_str-name.result.now within is c.loop-name.outcomes c.loop-name.invariant.names

pub keep-requires : goal.keep-requires
keep-requires g c =
    let i = c.loop-name.name-index in
    let order = c.args.plan.now.order in
    let name = c.as_str-name.result.now in
    let within : i < length order = subst (λ ns. i < length ns) c.as_slice-name-items.ensures c.loop-name-test.true in
    let is = c.as_str-name.ensures ∙ (c.name-item.is ∙ ap (λ ns. get_or ns i c.name-item.result) c.as_slice-name-items.ensures) in
    c.loop-name.invariant.only name (ordered-fresh c.args.modules.now c.args.plan.now c.requires.plan i c.name-item.result name within is c.loop-name.outcomes c.loop-name.invariant.names)

pub add-requires-in-loop-name : goal.add-requires-in-loop-name
add-requires-in-loop-name g c =
    let i = c.loop-name.name-index in
    let order = c.args.plan.now.order in
    let within : i < length order = subst (λ ns. i < length ns) c.as_slice-name-items.ensures c.loop-name-test.true in
    let is = c.as_str-name.ensures ∙ (c.name-item.is ∙ ap (λ ns. get_or ns i c.name-item.result) c.as_slice-name-items.ensures) in
    ordered-fresh c.args.modules.now c.args.plan.now c.requires.plan i c.name-item.result c.as_str-name.result.now within is c.loop-name.names c.loop-name.invariant.listed

pub keep-requires-in-loop-name : goal.keep-requires-in-loop-name
keep-requires-in-loop-name g c =
    let i = c.loop-name.name-index in
    let order = c.args.plan.now.order in
    let name = c.as_str-name.result.now in
    let within : i < length order = subst (λ ns. i < length ns) c.as_slice-name-items.ensures c.loop-name-test.true in
    let is = c.as_str-name.ensures ∙ (c.name-item.is ∙ ap (λ ns. get_or ns i c.name-item.result) c.as_slice-name-items.ensures) in
    c.loop-name.invariant.unversioned name (ordered-fresh c.args.modules.now c.args.plan.now c.requires.plan i c.name-item.result name within is c.loop-name.outcomes c.loop-name.invariant.names)

pub loop-name-preserved : goal.loop-name-preserved
loop-name-preserved g c =
    let i = c.loop-name.name-index in
    let d = c.name-item.result in
    let name = c.as_str-name.result.now in
    let modules = c.args.modules.now in
    let plan = c.args.plan.now in
    let within : i < length plan.order = subst (λ ns. i < length ns) c.as_slice-name-items.ensures c.loop-name-test.true in
    let is = c.as_str-name.ensures ∙ (c.name-item.is ∙ ap (λ ns. get_or ns i d) c.as_slice-name-items.ensures) in
    let at = c.loop-name in
    let inv = c.loop-name.invariant in
    let one = c.one_front.ensures.same in
    let module_here = c.in-Some.«module».now in
    let there = sym c.in-Some.ensures in
    let fresh = ordered-fresh modules plan c.requires.plan i d name within is at.outcomes inv.names in
    let unlisted = ordered-fresh modules plan c.requires.plan i d name within is at.names inv.listed in
    let found = c.in_ok-behind.found in
    let known = c.in_ok-behind.behind in
    let version = c.in_ok-behind.version in
    let unnumbered = inv.only name fresh in
    let unversioned = inv.unversioned name fresh in
    let after = c.in_ok-next.ensures in
    let outcomes = c.add.new.self in
    let numbers = c.keep.new.items in
    let versions = c.keep-in-loop-name.new.items in
    let outcomes_are = c.in_ok-add.ensures in
    let numbers_are = c.in_ok-keep.ensures in
    let versions_are = c.in_ok-keep-2.ensures in
    let grows = c.in_ok-behind.ensures.made.grows in
    let found_so = c.in_ok-behind.ensures.made.placed inv.shown inv.before inv.placed in
    let stay = c.made_modules_stay.ensures in
    let known_stay = c.known_files_stay_known.ensures.grows in
    let next : (family : List Member) → AreMembersDistinct family → AreModules family modules → IsNextLeveled family at.outcomes at.numbers inv.shown at.next name known found version =
    (λ family distinct are. c.in_ok-behind.ensures.made.leveled family inv.shown inv.before inv.placed
    (ready-here modules plan c.requires.plan i d name within is one family distinct are at.outcomes inv.names at.numbers at.known (inv.leveled_so family distinct are))
    (member-here one family modules name module_here c.requires.once are there)) in
    record {
      names = ordered-names modules plan c.requires.plan i d name within is at.outcomes outcomes found.outcome inv.names outcomes_are;
      listed = ordered-names modules plan c.requires.plan i d name within is at.names c.add-in-loop-name.new.self found.names inv.listed c.in_ok-add-2.ensures;
      agreed = agreed-more at.outcomes name inv.agreed fresh outcomes found.outcome outcomes_are found_so.agreed;
      exact = exact-more at.outcomes inv.exact name found.outcome outcomes fresh outcomes_are found_so.exact;
      kept = c.in_ok-behind.ensures.kept;
      numbered = c.in_ok-behind.ensures.numbered;
      numbers = numbers-more at.outcomes at.numbers numbers at.known known name found.number unnumbered numbers_are inv.numbers grows.faces found_so.number;
      only = none-more at.outcomes outcomes at.numbers numbers name found.outcome found.number fresh inv.only outcomes_are numbers_are;
      unversioned = none-more at.outcomes outcomes at.versions versions name found.outcome version fresh inv.unversioned outcomes_are versions_are;
      shown = _;
      placed = placed-more stay known_stay at.outcomes at.numbers at.versions inv.shown at.next name found version fresh unnumbered unversioned at.known known grows inv.kept.ordered c.in_ok-behind.ensures.kept.ordered outcomes numbers versions c.in_ok-next.next outcomes_are numbers_are versions_are after inv.placed found_so;
      before = old-more stay known_stay at.outcomes at.numbers at.versions inv.shown at.next name found version fresh unnumbered unversioned at.known known grows inv.kept.ordered c.in_ok-behind.ensures.kept.ordered outcomes numbers versions c.in_ok-next.next outcomes_are numbers_are versions_are after c.args.old.now inv.before;
      versions_so = λ family distinct are.
          versions-more stay known_stay at.outcomes at.numbers at.versions inv.shown at.next name found version fresh unnumbered unversioned at.known known grows inv.kept.ordered c.in_ok-behind.ensures.kept.ordered outcomes numbers versions c.in_ok-next.next outcomes_are numbers_are versions_are after (inv.versions_so family distinct are) (next family distinct are).held;
      leveled_so = λ family distinct are.
          leveled-more family at.outcomes outcomes at.numbers numbers at.known known name found fresh (inv.leveled_so family distinct are) (next family distinct are).is outcomes_are numbers_are;
      owned = λ family distinct are.
          found-more (λ n own. own ≡ names_on (texts_of family) n) at.names c.add-in-loop-name.new.self name found.names unlisted c.in_ok-add-2.ensures (next family distinct are).is.names (inv.owned family distinct are);
      most = steps-most modules plan.order i d name module_here c.args.steps.now at.steps c.level_next.new.steps within is there inv.most c.in_ok-behind.ensures.most;
      all = λ none. steps-more modules plan.order i d name module_here c.args.steps.now at.steps c.level_next.new.steps within is there (inv.all none) (c.in_ok-behind.ensures.all none);
    }

pub returns-clause-outcomes : goal.returns-clause-outcomes
returns-clause-outcomes g c family distinct are =
    let order = c.args.plan.now.order in
    let whole = take_all c.loop-name.name-index order (subst (λ ns. length ns ≤ c.loop-name.name-index) c.as_slice-name-items.ensures c.loop-name-test.false) in
    entries-all (Says (texts_of family)) family c.args.modules.now c.args.plan.now c.loop-name.outcomes are c.requires.plan (c.loop-name.invariant.names ∙ whole) (c.loop-name.invariant.leveled_so family distinct are).says

pub returns-clause-names : goal.returns-clause-names
returns-clause-names g c family distinct are name there =
    let order = c.args.plan.now.order in
    let whole = take_all c.loop-name.name-index order (subst (λ ns. length ns ≤ c.loop-name.name-index) c.as_slice-name-items.ensures c.loop-name-test.false) in
    let own = entries-all (λ n own. own ≡ names_on (texts_of family) n) family c.args.modules.now c.args.plan.now c.loop-name.names are c.requires.plan (c.loop-name.invariant.listed ∙ whole) (c.loop-name.invariant.owned family distinct are) name there in
    own.1 ∙ ap Some own.2

pub level_next-requires-clause-numbered : goal.level_next-requires-clause-numbered
level_next-requires-clause-numbered g c = c.loop-name.invariant.numbered

pub returns-clause-numbered : goal.returns-clause-numbered
returns-clause-numbered g c = c.loop-name.invariant.numbered

pub returns-clause-kept : goal.returns-clause-kept
returns-clause-kept g c = c.loop-name.invariant.kept

pub returns-clause-held : goal.returns-clause-held
returns-clause-held g c family distinct are = (c.loop-name.invariant.shown, c.loop-name.invariant.versions_so family distinct are, c.loop-name.invariant.before)

pub returns-clause-most : goal.returns-clause-most
returns-clause-most g c =
    let order = c.args.plan.now.order in
    let modules = c.args.modules.now in
    let whole = take_all c.loop-name.name-index order (subst (λ ns. length ns ≤ c.loop-name.name-index) c.as_slice-name-items.ensures c.loop-name-test.false) in
    let all = ap (sum_by (λ name. trees_of (entry_of modules name))) whole ∙ trees-all modules c.args.plan.now c.requires.once c.requires.plan in
    subst (λ n. c.loop-name.steps ≤ after_checks n c.args.steps.now) all c.loop-name.invariant.most

pub returns-clause-all : goal.returns-clause-all
returns-clause-all g c none =
    let order = c.args.plan.now.order in
    let modules = c.args.modules.now in
    let whole = take_all c.loop-name.name-index order (subst (λ ns. length ns ≤ c.loop-name.name-index) c.as_slice-name-items.ensures c.loop-name-test.false) in
    let all = ap (sum_by (λ name. trees_of (entry_of modules name))) whole ∙ trees-all modules c.args.plan.now c.requires.once c.requires.plan in
    c.loop-name.invariant.all none ∙ ap (λ n. after_checks n c.args.steps.now) all
