-- What declarations yield, whichever way a name comes, so that a nested module may bring again what stands round it.
use Rattle.std.specs.Prelude.{◌≡◌, ◌⊎◌, ℕ, true, List, ◌∷◌, Some}
use Rattle.std.specs.List.{AllByRecursion}
use Rattle.tla_model.specs.declared.ids.DeclId.{DeclId}
use Rattle.tla_model.specs.declared.ids.UnitId.{UnitId}
use Rattle.tla_model.specs.declared.names.Meaning.TheVariants.{BuiltIn, Declared}
use Rattle.tla_model.specs.Tables.{Named}
use Rattle.tla_model.specs.Entities.{Meaning, Text}
use Rattle.tla_model.specs.EntityKinds.{is_meant, stands_behind}
use Rattle.unit_grammar.specs.Units.{UnitTree, ModuleEnd}
use Rattle.module_scope.specs.Environments.{Scope}
use Rattle.module_model.specs.Exports.{entry_of, exported, exports_of, instantiable}
use Rattle.tree_kinds.specs.Standing.{Environment, Outside, Steps, Value, name_among}
use Rattle.module_kinds.specs.ModuleKinds.{KindState, after}
use Rattle.kind_text.specs.Substitution.{Item}
use Rattle.flat_trees.specs.Stands.{Unsaid}
use Rattle.flat_trees.specs.Layouts.{Layout}
use Rattle.flat_kinds.specs.Declarations.{IsOnce, OfAllKnown}
use Rattle.flat_kinds.specs.Readings.{Leaves}

-- what each declaration yields that came through these units, by what stands for parameters
abbrev pub Yields : Type 0
Yields = DeclId → List UnitId → Environment → Value

module _ (yields : Yields) where
  -- what a name yields that means this; what is built in stands as it does
  abbrev pub yielded : Meaning → Environment → Value
  yielded BuiltIn parameters = parameters BuiltIn
  yielded (Declared e callee) parameters = yields callee.decl callee.via parameters

  -- a state has for a name what that yields
  abbrev pub HasYielded : KindState → Meaning → Type 0
  HasYielded state meaning = (parameters : Environment) → state.standing parameters meaning ≡ yielded meaning parameters

  -- the names that a module brings stand there for what they yield
  abbrev pub IsYielding : Outside → Type 0
  IsYielding outside =
      (meaning : Meaning) (name : Named) → name_among (instantiable (exported outside.view)) meaning ≡ Some name → (parameters : Environment) (arguments : List Item) (path : Steps)
      → outside.standing parameters (record { name = name; arguments = arguments } ∷ path) ≡ yielded meaning parameters arguments path

  -- a state has what its exported definitions and instances yield
  abbrev pub HasExported : KindState → Type 0
  HasExported state =
      (name : Named) (meaning : Meaning) → entry_of (exports_of state.read.place.here.exports) name ≡ Some meaning → is_meant stands_behind meaning ≡ true
      → HasYielded state meaning

  -- modules that can be named bring their names so, here and round a nested module
  pub record AreYielding (modules : Scope Outside) : Type 0 where
    pub here : OfAllKnown IsYielding modules.here
    pub round : AllByRecursion (λ nested. OfAllKnown IsYielding nested.1) modules.round

  -- at the end of a nested module the state has what it exports
  abbrev pub EndsYielding : KindState → UnitTree → Type 0
  EndsYielding state (ModuleEnd closing) = IsOnce state.read.place.here.exports × HasExported state
  EndsYielding state unit = Unit {0}

  module _ (text : Text) (files : List ℕ → Outside) (words : List ℕ) where
    -- a unit leaves a name of a layout, or nothing is said of that there, or it stands for what it yields before the unit and behind
    abbrev pub ComesAgain : KindState → UnitTree → Layout → Meaning → Type 0
    ComesAgain state unit layout meaning =
        Leaves text files words state unit meaning
        ⊎ ((layout.stands meaning ≡ Unsaid) ⊎ (HasYielded state meaning × HasYielded (after text files words state unit) meaning))
