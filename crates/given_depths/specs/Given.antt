-- How deep what declarations declare is, whichever way their names come.
use Rattle.std.specs.Prelude.{◌≡◌, ◌⊎◌, ℕ, true, List, ◌∷◌, Some, if◌then◌else◌}
use Rattle.std.specs.List.{AllByRecursion}
use Rattle.unit_grammar.specs.Units.{UnitTree, ModuleEnd}
use Rattle.tla_model.specs.declared.ids.DeclId.{DeclId}
use Rattle.tla_model.specs.declared.ids.UnitId.{UnitId}
use Rattle.tla_model.specs.declared.names.Meaning.TheVariants.{BuiltIn, Declared}
use Rattle.tla_model.specs.Entities.{Meaning, Text}
use Rattle.tla_model.specs.EntityKinds.{is_meant, stands_behind}
use Rattle.tla_model.specs.Tables.{Named}
use Rattle.module_scope.specs.Environments.{Scope}
use Rattle.module_model.specs.Exports.{entry_of, exported, exports_of, instantiable}
use Rattle.tree_kinds.specs.Standing.{Outside, Reached, is_bound, name_among}
use Rattle.tree_kinds.specs.TreeDepths.{Depths}
use Rattle.module_kinds.specs.ModuleKinds.{KindState, depths_behind}
use Rattle.flat_kinds.specs.Declarations.{Declarations, IsNoDefinition, IsOnce, OfAllKnown}
use Rattle.flat_kinds.specs.Readings.{Leaves}
use Rattle.flattened_trees.specs.Agreeing.{is_seen}

-- how deep what each declaration declares is that came through these units, at the names that follow it on a path
abbrev pub GivenDepths : Type 0
GivenDepths = DeclId → List UnitId → List Named → Reached

-- no depth
abbrev pub no_reach : Reached
no_reach = record { depth = 0; replaced = 0 }

module _ (given : GivenDepths) where
  -- the depth by what a name means; what is built in has none
  abbrev pub declared_depth : Meaning → List Named → Reached
  declared_depth BuiltIn path = no_reach
  declared_depth (Declared e callee) path = given callee.decl callee.via path

  -- and what is bound has none
  abbrev pub given_depth : Meaning → List Named → Reached
  given_depth meaning path = if is_bound meaning then no_reach else declared_depth meaning path

  -- a name is so deep
  abbrev pub IsGiven : Depths → Meaning → Type 0
  IsGiven depths meaning = (path : List Named) → depths meaning path ≡ given_depth meaning path

  -- the same of all that was seen
  abbrev pub AreSeenGiven : Depths → List Meaning → Type 0
  AreSeenGiven depths seen = (meaning : Meaning) → is_seen seen meaning ≡ true → IsGiven depths meaning

  -- the names that a module brings are so deep outside of it
  abbrev pub IsGivenOutside : Outside → Type 0
  IsGivenOutside outside =
      (meaning : Meaning) (name : Named) → name_among (instantiable (exported outside.view)) meaning ≡ Some name → (path : List Named) → outside.depths (name ∷ path) ≡ given_depth meaning path

  -- exported definitions and instances are so deep in a state
  abbrev pub AreExportsGiven : KindState → Type 0
  AreExportsGiven state =
      (name : Named) (meaning : Meaning) → entry_of (exports_of state.read.place.here.exports) name ≡ Some meaning → is_meant stands_behind meaning ≡ true
      → IsGiven state.depths meaning

  -- modules that can be named bring their names so, here and round a nested module
  pub record AreModulesGiven (modules : Scope Outside) : Type 0 where
    pub here : OfAllKnown IsGivenOutside modules.here
    pub round : AllByRecursion (λ nested. OfAllKnown IsGivenOutside nested.1) modules.round

  -- at the end of a nested module what it exports is so deep
  abbrev pub AreEndsGiven : KindState → UnitTree → Type 0
  AreEndsGiven state (ModuleEnd closing) = IsOnce state.read.place.here.exports × AreExportsGiven state
  AreEndsGiven state unit = Unit {0}

  module _ (text : Text) (files : List ℕ → Outside) (words : List ℕ) where
    -- a unit leaves a name, or gives it this depth
    abbrev pub Gives : KindState → UnitTree → Type 0
    Gives state unit = (meaning : Meaning) → Leaves text files words state unit meaning ⊎ IsGiven (depths_behind text files words state unit) meaning

module _ (declares : Declarations) where
  -- by its declaration this is no definition and no instance, or it is bound
  abbrev pub IsPlainName : Meaning → Type 0
  IsPlainName meaning = IsNoDefinition declares meaning ⊎ (is_bound meaning ≡ true)

  -- such names have no depth
  abbrev pub ArePlainNames : Depths → Type 0
  ArePlainNames depths = (meaning : Meaning) → IsPlainName meaning → (path : List Named) → depths meaning path ≡ no_reach

  -- nor does what is no definition have one by its declaration
  abbrev pub AreSymbolsPlain : GivenDepths → Type 0
  AreSymbolsPlain given = (meaning : Meaning) → IsNoDefinition declares meaning → (path : List Named) → declared_depth given meaning path ≡ no_reach
