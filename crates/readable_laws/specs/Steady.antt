-- What stays true while a module is read: symbols take as many expressions as they have places, and names stand behind instances alone.
use Rattle.std.specs.Prelude.{◌≡◌, ℕ, List, Option, Some, None, replicate}
use Rattle.std.specs.List.{AllByRecursion}
use Rattle.unit_grammar.specs.Units.{ModuleUnits, UnitTree}
use Rattle.tla_model.specs.Tables.{Named, Symbol, Word}
use Rattle.tla_model.specs.Entities.{Meaning}
use Rattle.module_model.specs.Exports.{ModuleView, exported, exports_of}
use Rattle.module_model.specs.Modules.{Reading, text_of}
use Rattle.module_model.specs.Resolution.{ReadState, first, read_all, words_of}
use Rattle.tree_kinds.specs.Expanding.{built_in_places}
use Rattle.flattened_trees.specs.Readable.{IsNoInstance, orders_of}
use Rattle.readable_laws.specs.Accepted.{AreBehindInstances, IsBehindInstances, TakePlaces}

-- what a name means takes as many expressions as it has places, if it is a symbol
abbrev pub NameTakes : Named → Meaning → Type 0
NameTakes (Word bytes) meaning = Unit {0}
NameTakes (Symbol op) meaning = IsNoInstance meaning × (orders_of meaning ≡ replicate (built_in_places op) 0)

-- the same of an entry
abbrev pub EntryTakes : Named × Meaning → Type 0
EntryTakes entry = NameTakes entry.0 entry.1

-- a module that others name is steady
pub record IsSteadyView (view : ModuleView) : Type 0 where
  pub entries : AllByRecursion EntryTakes (exported view)
  pub behind : IsBehindInstances view.entries

-- the same of a nested module, and of one round a place, of which nothing is known there
abbrev pub IsSteadyModule : List ℕ × Option ModuleView → Type 0
IsSteadyModule (name, None) = Unit {0}
IsSteadyModule (name, Some view) = IsSteadyView view

-- a module that is read is steady
pub record IsSteadyReading (reading : Reading) : Type 0 where
  pub context : TakePlaces reading.context
  pub exports : AllByRecursion EntryTakes (exports_of reading.exports)
  pub modules : AllByRecursion IsSteadyModule reading.modules

-- the same of the place where it is read, with what is known to stand behind instances
pub record IsSteady (state : ReadState) : Type 0 where
  pub known : AreBehindInstances state.known
  pub here : IsSteadyReading state.place.here
  pub round : AllByRecursion IsSteadyReading state.place.round

-- where a unit is read, behind these
abbrev pub state_behind : (List ℕ → ModuleView) → List ℕ → ModuleUnits → List UnitTree → ReadState
state_behind files source units before = read_all (text_of source units) files (words_of units) (first files source units) before
