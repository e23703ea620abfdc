-- Places among the units of a module in code, as the definitions have them.
use Rattle.std.specs.Prelude.{◌≡◌, ℕ, Bool, true, false, List, [], ◌∷◌, Option, Some, None, length, map, reverse}
use Rattle.std.specs.Borrow.{Bor}
use Rattle.std.specs.Option.{option_map}
use Rattle.unit_grammar.specs.Units.{ModuleUnits, UnitTree}
use Rattle.tla_model.specs.Entities.{Text}
use Rattle.module_scope.specs.Environments.{Environment, behind, meaning}
use Rattle.tree_kinds.specs.Standing.{Outside}
use Rattle.module_kinds.specs.ModuleKinds.{KindState, after, nowhere, outside, read_all}
use Rattle.module_constancy.specs.declared.place.Place.{Place}

-- whether a module is constant: a file, one round the place, or a nested one
abbrev pub constant_by : (List ℕ → Bool) → Option (Option Bool) → List ℕ → Bool
constant_by files None name = files name
constant_by files (Some None) name = true
constant_by files (Some (Some constant)) name = constant

-- the same of the module of a name
abbrev pub constant_in : (List ℕ → Bool) → Environment Bool → List ℕ → Bool
constant_in files modules name = constant_by files (meaning modules name) name

-- modules of which nothing else is known
abbrev pub only_constant : (List ℕ → Bool) → List ℕ → Outside
only_constant constant name = record nowhere { is_constant = constant name }

-- the modules that the outermost one can name at a place
abbrev pub named_at : (List ℕ → Bool) → Place → List ℕ → Outside
named_at files place = only_constant (constant_in files place.modules)

-- the names of the nested modules round a place, the innermost first
abbrev pub titles_of : List (Bor (List ℕ)) → List (List ℕ)
titles_of names = reverse (map (λ (name : Bor (List ℕ)). name.now) names)

-- what can be named behind the innermost of these nested modules
abbrev pub leaving : List (List ℕ) → Environment Bool → Environment Bool
leaving (title ∷ []) modules = behind modules title false
leaving titles modules = modules

-- ---- the definitions

-- modules that can be named, each with whether it is constant
abbrev pub constancies : Environment Outside → Environment Bool
constancies modules = map (λ entry. (entry.0, option_map (λ (outside : Outside). outside.is_constant) entry.1)) modules

-- those that the outermost module can name, by what can be named at a place and round it
abbrev pub outermost_of : Environment Outside → List (List ℕ × Environment Outside) → Environment Outside
outermost_of here [] = here
outermost_of here (nested ∷ round) = outermost_of nested.1 round

-- code stands at this state
pub record IsAt (place : Place) (state : KindState) : Type 0 where
  pub modules : place.modules ≡ constancies (outermost_of state.modules.here state.modules.round)
  pub titles : titles_of place.round.items ≡ map (λ nested. nested.0) state.modules.round
  pub depth : length state.read.place.round ≡ length state.modules.round

-- wherever code stood, it stands behind the unit then
abbrev pub Passes : Text → UnitTree → Place → Place → Type 0
Passes text unit old new = (files : List ℕ → Outside) (words : List ℕ) (state : KindState) → IsAt old state → IsAt new (after text files words state unit)

-- ---- modules

-- files of which these are constant
abbrev pub AreConstancies : (List ℕ → Bool) → (List ℕ → Outside) → Type 0
AreConstancies constant files = (name : List ℕ) → (files name).is_constant ≡ constant name

-- this says whether nothing goes beyond constants behind units either, wherever code stood before them and nothing did
abbrev pub AreConstant : (List ℕ → Bool) → Text → List UnitTree → Place → Bool → Type 0
AreConstant constant text units place answer =
    (files : List ℕ → Outside) (words : List ℕ) → AreConstancies constant files → (state : KindState) → IsAt place state → state.is_constant ≡ true
    → answer ≡ (read_all text files words state units).is_constant

-- this says whether a module is constant, whatever else the files are
abbrev pub IsConstancyOf : (List ℕ → Bool) → List ℕ → ModuleUnits → Bool → Type 0
IsConstancyOf constant source units answer = (files : List ℕ → Outside) → AreConstancies constant files → answer ≡ (outside files source units).is_constant
