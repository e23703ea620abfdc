-- Own symbols of nested modules, by the units that are ahead: a module that begins has those that it turns out to have at its end.
use Rattle.std.specs.Prelude.{◌≡◌, ℕ, List, [], ◌∷◌, drop, length}
use Rattle.unit_grammar.specs.Units.{UnitTree, ModuleBegin, ModuleEnd}
use Rattle.tla_model.specs.Entities.{Meaning, Text}
use Rattle.module_model.specs.Exports.{ModuleView, exports_of}
use Rattle.module_model.specs.Instances.{nested_view}
use Rattle.module_model.specs.Modules.{Reading}
use Rattle.module_model.specs.Resolution.{ReadState, after}
use Rattle.flattened_trees.specs.Leads.{Setting}
use Rattle.flattened_units.specs.Units.{meanings_of}

-- own symbols of the nested modules that begin ahead, in the order in which they begin; and of those round the place that end ahead,
-- the innermost first
pub record Owned : Type 0 where
  pub begun : List (List Meaning)
  pub round : List (List Meaning)

-- the first of these, or no symbols
abbrev pub first_own : List (List Meaning) → List Meaning
first_own [] = []
first_own (own ∷ round) = own

-- before a module begins: its symbols are those of the first one that ends behind it
abbrev pub before_begin : Owned → Owned
before_begin owned = record { begun = first_own owned.round ∷ owned.begun; round = drop 1 owned.round }

-- before a module ends
abbrev pub before_end : List Meaning → Owned → Owned
before_end own owned = record { begun = owned.begun; round = own ∷ owned.round }

-- own symbols of the nested module that is read, as if it ended here
abbrev pub own_at : ReadState → List Reading → List Meaning
own_at state [] = []
own_at state (outer ∷ round) = meanings_of (nested_view state.known outer.context (exports_of state.place.here.exports)).parameters

module _ (text : Text) (files : List ℕ → ModuleView) (words : List ℕ) where
  -- own symbols by the units from a place on
  abbrev pub own_ahead : ReadState → List UnitTree → Owned
  own_ahead state [] = record { begun = []; round = [] }
  own_ahead state (ModuleBegin dashes name extends ∷ units) = before_begin (own_ahead (after text files words state (ModuleBegin dashes name extends)) units)
  own_ahead state (ModuleEnd closing ∷ units) = before_end (own_at state state.place.round) (own_ahead (after text files words state (ModuleEnd closing)) units)
  own_ahead state (unit ∷ units) = own_ahead (after text files words state unit) units

  -- own symbols of each of these units, if it begins a nested module: those of the first one that ends behind it
  abbrev pub own_each : ReadState → List UnitTree → List (List Meaning)
  own_each state [] = []
  own_each state (unit ∷ units) = first_own (own_ahead (after text files words state unit) units).round ∷ own_each (after text files words state unit) units

-- these are the symbols that stand behind those round a module, in each module round the place, the innermost first
abbrev pub AreAllOwned : List (List Meaning) → Setting → List Setting → Type 0
AreAllOwned [] setting round = round ≡ []
AreAllOwned (own ∷ owns) setting (outer ∷ round) = (own ≡ drop (length outer.frame) setting.frame) × AreAllOwned owns outer round
AreAllOwned (own ∷ owns) setting [] = ⊥
