use Rattle.std.proofs.Common.{◌≡◌, ◌≤◌, ℕ, List, [], Option, Some, None, take}
use Rattle.std.specs.Prelude.{sum_by}
use Rattle.family_facts.specs.Facts.{texts_of}
use Rattle.family_facts.specs.Family.{AreMembersDistinct, Member}
use Rattle.family_facts.specs.Verdicts.{after_checks}
use Rattle.family_tables.specs.Agreement.{AreAgreed}
use Rattle.family_tables.specs.Modules.{AreModules}
use Rattle.family_tables.specs.Outcomes.{trees_of}
use Rattle.family_tables.specs.Tables.{entry_of, names_in}
use Rattle.leveled_modules.specs.Leveled.{AreKept}
use Rattle.tree_numbers.specs.Numbered.{IsNumbered}
use Rattle.family_levels.specs.Exactness.{AreExact}
use Rattle.family_levels.specs.Again.{ArePlaced}
use Rattle.family_levels.specs.Leveling.{AreLeveled, AreNumbers, names_on}
use Rattle.family_levels.specs.Versions.{AreVersions, Shown}
use Rattle.family_levels.specs.declared.names.Names.{Names}
use Rattle.family_levels.proofs.modules.level_all.Given as goal

abbrev pub invariant-loop-name : goal.invariant-loop-name
invariant-loop-name g l = record {
  names : names_in l.outcomes ≡ take l.name-index l.plan.order;
  listed : names_in l.names ≡ take l.name-index l.plan.order;
  agreed : AreAgreed l.outcomes;
  exact : AreExact l.outcomes;
  kept : AreKept l.known;
  numbered : IsNumbered l.known.tables.state.flat l.trees;
  numbers : AreNumbers l.known l.numbers;
  only : (name : List ℕ) → entry_of l.outcomes name ≡ None → entry_of l.numbers name ≡ None;
  unversioned : (name : List ℕ) → entry_of l.outcomes name ≡ None → entry_of l.versions name ≡ None;
  shown : ℕ → Option Shown;
  placed : ArePlaced l.outcomes l.numbers shown l.next l.versions;
  before : AreVersions l.known shown l.next l.old;
  versions_so : (family : List Member) → AreMembersDistinct family → AreModules family l.modules → AreVersions l.known shown l.next l.versions;
  leveled_so : (family : List Member) → AreMembersDistinct family → AreModules family l.modules → AreLeveled family l.outcomes l.numbers l.known;
  owned : (family : List Member) → AreMembersDistinct family → AreModules family l.modules → (name : List ℕ) (own : Names) → entry_of l.names name ≡ Some own → own ≡ names_on (texts_of family) name;
  most : l.steps ≤ after_checks (sum_by (λ name. trees_of (entry_of l.modules name)) (take l.name-index l.plan.order)) l.fn.steps;
  all : l.old ≡ [] → l.steps ≡ after_checks (sum_by (λ name. trees_of (entry_of l.modules name)) (take l.name-index l.plan.order)) l.fn.steps;
}
