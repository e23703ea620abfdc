-- The names that a unit declares, among those of its module.
use Rattle.std.proofs.Common.{◌≡◌, ◌≤◌, ◌+◌, ℕ, List, [], ◌∷◌, ◌++◌, ap, map, arith}
use Rattle.std.specs.List.{AllByRecursion}
use Rattle.unit_grammar.specs.Units.{ModuleUnits, UnitTree}
use Rattle.tla_tree.specs.Syntax.{Tree as TreeOf}
use Rattle.tla_model.specs.declared.names.Binder.{Binder}
use Rattle.tla_model.specs.Entities.{Meaning, declared_by, declaring, meant, within}
use Rattle.tla_model.specs.Lexemes.{spelled}
use Rattle.module_model.specs.Modules.{text_of}
use Rattle.flattened_trees.specs.Agreeing.{AreNew, IsFresh}
use Rattle.fresh_names.specs.Seen.{IsElsewhere}
use Rattle.fresh_names.proofs.New.{all-new, beginning, there-all}

named-append : (start : ℕ) (a b : List Binder) → beginning start (a ++ b) ≡ beginning start a + beginning start b
named-append start [] b = omega arith
named-append start (binder ∷ a) b = omega (arith, named-append start a b)

-- a unit declares names between those of the units round it
split : (start : ℕ) (before : List UnitTree) (unit : UnitTree) (behind : List UnitTree)
    → beginning start (declaring (before ++ unit ∷ behind)) ≡ beginning start (declaring before ++ declaring behind) + beginning start (declared_by unit)
split start [] unit behind = omega (arith, named-append start (declared_by unit) (declaring behind))
split start (other ∷ before) unit behind =
    omega (
      arith,
      split start before unit behind,
      named-append start (declared_by other) (declaring (before ++ unit ∷ behind)),
      named-append start (declared_by other ++ declaring before) (declaring behind),
      named-append start (declared_by other) (declaring before),
      named-append start (declaring before) (declaring behind),
    )

module _ (bytes : List ℕ) (found : ModuleUnits) (few : (start : ℕ) → beginning start (declaring found.units) ≤ 1) where
  new-names : (others own : List Binder) (seen : List Meaning) → ((start : ℕ) → beginning start (declaring found.units) ≡ beginning start others + beginning start own)
      → AllByRecursion (IsElsewhere (text_of bytes found) others) seen → AreNew seen (map (meant (text_of bytes found)) own)
  new-names others own seen sum elsewhere =
      all-new (spelled bytes found.name) bytes (declaring found.units) others own seen
      (there-all (declaring found.units) others (λ start. omega (arith, sum start)))
      (there-all (declaring found.units) own (λ start. omega (arith, sum start)))
      (λ start. omega (arith, sum start, few start)) elsewhere

  pub unit-fresh : (before behind : List UnitTree) (unit : UnitTree) (x : TreeOf) (seen : List Meaning) → found.units ≡ before ++ unit ∷ behind → declared_by unit ≡ within x
      → AllByRecursion (IsElsewhere (text_of bytes found) (declaring before ++ declaring behind)) seen → IsFresh (text_of bytes found) seen x
  unit-fresh before behind unit x seen units own elsewhere =
      new-names (declaring before ++ declaring behind) (within x) seen
      (λ start.
      let all : beginning start (declaring found.units) ≡ beginning start (declaring (before ++ unit ∷ behind)) = ap (λ us. beginning start (declaring us)) units in
      let same : beginning start (declared_by unit) ≡ beginning start (within x) = ap (beginning start) own in
      omega (arith, all, same, split start before unit behind)) elsewhere
