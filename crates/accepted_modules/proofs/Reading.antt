-- Units of modules without faults can be read.
use Rattle.std.proofs.Common.{◌≡◌, ◌≤◌, ℕ, Bool, true, List, [], ◌∷◌, ◌++◌, Option, sym, ap, subst}
use Rattle.std.specs.List.{AllByRecursion}
use Rattle.list_laws.proofs.Lists.{all-right}
use Rattle.tla_symbols.specs.declared.lexeme.Lexeme.{Lexeme}
use Rattle.unit_grammar.specs.Derivation.{DerivesModule}
use Rattle.unit_grammar.specs.Units.{ModuleUnits, UnitTree}
use Rattle.front_laws.specs.Fronts.{IsFront, Tree as TreeFront, read, whole}
use Rattle.tla_model.specs.Contexts.{Context}
use Rattle.tla_model.specs.Entities.{Meaning, declaring}
use Rattle.module_model.specs.Bindings.{faults}
use Rattle.module_model.specs.Exports.{Known, ModuleView}
use Rattle.module_model.specs.Instances.{unit_trees}
use Rattle.module_model.specs.Modules.{text_of}
use Rattle.module_model.specs.Resolution.{findings, known_in, module_named, words_of}
use Rattle.tree_kinds.specs.Standing.{Outside}
use Rattle.module_kinds.specs.ModuleKinds.{known_at, named}
use Rattle.arity_rules.specs.Arities.{arity_faults}
use Rattle.flattened_meanings.specs.Faces.{NameModules}
use Rattle.flattened_trees.specs.Leads.{FlatFace}
use Rattle.lexeme_laws.specs.Apart.{begins_at, counted}
use Rattle.readable_laws.specs.ReadUnits.{AreKnownAmong, IsAcceptedModule, IsReadableUnit}
use Rattle.readable_laws.specs.Steady.{IsSteadyView, state_behind}
use Rattle.readable_laws.specs.Uses.{implied_by, means_by}
use Rattle.accepted_modules.specs.Behind.{IsForeignView}
use Rattle.accepted_modules.specs.Beside.{IsBeside}
use Rattle.accepted_modules.specs.Faces.{ReadsAs}
use Rattle.accepted_modules.specs.Named.{AllNamed}
use Rattle.accepted_modules.specs.States.{HaveViews, kinds_behind}
use Rattle.accepted_modules.proofs.Beside.{all-declared}
use Rattle.accepted_modules.proofs.Instanced.{UnitHas, module-has}
use Rattle.accepted_modules.proofs.Knowing.{unit-known}
use Rattle.accepted_modules.proofs.Starts.{names_of}
use Rattle.accepted_modules.proofs.Views.{all-same, states-same}

pub front-derives : (name bytes : List ℕ) (units : ModuleUnits) → IsFront name bytes (TreeFront units) → (a : List Lexeme) × DerivesModule units a
front-derives name bytes units (read {lexemes = lexemes} r l m (whole d h s)) = (lexemes, d)

-- what is known at a unit of a module that is the front of some bytes
pub front-known : (name bytes : List ℕ) (units : ModuleUnits) (files : List ℕ → ModuleView) (outsides : List ℕ → Outside) (faces : List ℕ → FlatFace) (means : ℕ → Option Meaning) (implied : ℕ → List Meaning) (nameable : List ℕ → Bool)
    (before : List UnitTree) (unit : UnitTree) (behind : List UnitTree) → IsFront name bytes (TreeFront units) → ((start : ℕ) → counted (begins_at start) (names_of (declaring units.units)) ≤ 1)
    → ((name : List ℕ) → IsForeignView (text_of bytes units).file (files name)) → units.units ≡ before ++ unit ∷ behind
    → ((name : List ℕ) → (outsides name).view ≡ module_named (text_of bytes units) files (words_of units) (state_behind files bytes units before) name) → NameModules bytes nameable (unit_trees unit)
    → ((name : List ℕ) → nameable name ≡ true → ReadsAs (faces name) (outsides name))
    → AreKnownAmong (text_of bytes units) (known_in (text_of bytes units) files (words_of units) (state_behind files bytes units before) unit) outsides means implied faces (unit_trees unit)
front-known name bytes units files outsides faces means implied nameable before unit behind front apart foreign split same trees faced =
    let has = all-right UnitHas before (unit ∷ behind) (subst (AllByRecursion UnitHas) split (module-has (front-derives name bytes units front).1)) in
    unit-known bytes units apart files foreign before unit behind split outsides faces means implied nameable same faced has.0 trees

-- a module without faults is accepted
pub module-accepted : (files : List ℕ → ModuleView) (source : List ℕ) (units : ModuleUnits) → faults (findings files source units) ≡ [] → arity_faults (findings files source units) units.units ≡ [] → ((name : List ℕ) → IsSteadyView (files name))
    → ((name : List ℕ) → AllNamed IsBeside (files name)) → IsAcceptedModule files source units
module-accepted files source units names arities steady beside = record { steady = steady; names = names; arities = arities; declared = all-declared files source units beside }

-- a unit that can be read by its names can be read by what stands for these
pub unit-readable : (source : List ℕ) (units : ModuleUnits) (files : List ℕ → ModuleView) (outsides : List ℕ → Outside) (faces : List ℕ → FlatFace) (before : List UnitTree) (unit : UnitTree) → HaveViews outsides files
    → IsReadableUnit (text_of source units) (known_in (text_of source units) files (words_of units) (state_behind files source units before) unit) (named (text_of source units) outsides (words_of units) (kinds_behind outsides source units before))
    (means_by (findings files source units)) (implied_by (findings files source units)) faces (state_behind files source units before).place.here.context unit
    → IsReadableUnit (text_of source units) (known_at (text_of source units) outsides (words_of units) (kinds_behind outsides source units before) unit) (named (text_of source units) outsides (words_of units) (kinds_behind outsides source units before))
    (means_by (findings files source units)) (implied_by (findings files source units)) faces (kinds_behind outsides source units before).read.place.here.context unit
unit-readable source units files outsides faces before unit same is =
    let state = states-same outsides files source units same before in
    let known : known_at (text_of source units) outsides (words_of units) (kinds_behind outsides source units before) unit ≡ known_in (text_of source units) files (words_of units) (state_behind files source units before) unit =
    λ i. known_in (text_of source units) (all-same outsides files source units same i) (words_of units) (state i) unit in
    subst
    (λ (k : Known). IsReadableUnit (text_of source units) k (named (text_of source units) outsides (words_of units) (kinds_behind outsides source units before)) (means_by (findings files source units)) (implied_by (findings files source units)) faces
    (kinds_behind outsides source units before).read.place.here.context unit) (sym known)
    (subst
    (λ (c : Context). IsReadableUnit (text_of source units) (known_in (text_of source units) files (words_of units) (state_behind files source units before) unit) (named (text_of source units) outsides (words_of units) (kinds_behind outsides source units before))
    (means_by (findings files source units)) (implied_by (findings files source units)) faces c unit) (ap (λ s. s.place.here.context) (sym state)) is)
