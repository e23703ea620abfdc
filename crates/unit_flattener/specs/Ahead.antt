-- Own symbols of nested modules, as code comes to them.
use Rattle.std.specs.Prelude.{◌≡◌, ⊤, ℕ, Bool, true, false, List, [], ◌∷◌, ◌++◌, drop, length, reverse}
use Rattle.tla_tree.specs.Arena.{Node}
use Rattle.tla_tree.specs.declared.unit.Unit.TheVariants as unit
use Rattle.unit_grammar.specs.Units.{UnitTree, ModuleBegin, ModuleEnd}
use Rattle.unit_grammar.specs.UnitNodes.{unit_at}
use Rattle.tla_model.specs.Entities.{Meaning, Text}
use Rattle.module_model.specs.Exports.{ModuleView}
use Rattle.module_model.specs.Resolution.{ReadState, after}
use Rattle.flattened_trees.specs.Leads.{Setting}
use Rattle.own_symbols.specs.Ahead.{Owned, before_begin, before_end, own_ahead, own_at}
use Rattle.unit_scope.specs.EnclosingReadings.{IsAt}
use Rattle.unit_scope.specs.Readings.{Over, files_over}
use Rattle.unit_scope.specs.declared.reader.ModuleReader.{ModuleReader}

-- a nested module begins
abbrev pub begins : unit.the_data → Bool
begins (unit.ModuleBegin dashes name extends) = true
begins x = false

module _ (text : Text) (files : List ℕ → ModuleView) (words : List ℕ) where
  -- own symbols at the ends of nested modules, in their order
  abbrev pub ends_ahead : ReadState → List UnitTree → List (List Meaning)
  ends_ahead state [] = []
  ends_ahead state (ModuleEnd closing ∷ units) = own_at state state.place.round ∷ ends_ahead (after text files words state (ModuleEnd closing)) units
  ends_ahead state (unit ∷ units) = ends_ahead (after text files words state unit) units

-- wherever code read, these are the own symbols of the modules that begin in units
abbrev pub AreBegun : Text → ModuleReader → List UnitTree → List (List Meaning) → Type 0
AreBegun text read units begun = (over : Over) (state : ReadState) → IsAt text over read state → begun ≡ (own_ahead text (files_over over) over.words state units).begun

-- and those at the ends in units were appended
abbrev pub AppendsEnds : Text → ModuleReader → List UnitTree → List (List Meaning) → List (List Meaning) → Type 0
AppendsEnds text read units before now = (over : Over) (state : ReadState) → IsAt text over read state → now ≡ before ++ ends_ahead text (files_over over) over.words state units

-- ---- from the last unit on

-- own symbols at ends that were not come to, the last end first; and what is known of the units behind
pub record Taken : Type 0 where
  pub left : List (List Meaning)
  pub owned : Owned

-- before the end of a module
abbrev pub take_end : Taken → List (List Meaning) → Taken
take_end taken [] = taken
take_end taken (own ∷ left) = record { left = left; owned = before_end own taken.owned }

-- before a unit
abbrev pub taken_at : UnitTree → Taken → Taken
taken_at (ModuleBegin dashes name extends) taken = record { left = taken.left; owned = before_begin taken.owned }
taken_at (ModuleEnd closing) taken = take_end taken taken.left
taken_at unit taken = taken

-- before units, by the own symbols at all their ends, the last end first
abbrev pub taken_by : List UnitTree → List (List Meaning) → Taken
taken_by [] ends = record { left = ends; owned = record { begun = []; round = [] } }
taken_by (unit ∷ units) ends = taken_at unit (taken_by units ends)

-- the same in code, where the next of each is the last
abbrev pub taken_in : List (List Meaning) → List (List Meaning) → List (List Meaning) → Taken
taken_in ends round begun = record { left = reverse ends; owned = record { begun = reverse begun; round = reverse round } }

-- code comes before a unit
abbrev pub IsTakenAt : unit.the_data → Taken → Taken → Type 0
IsTakenAt x old new = (nodes : List Node) → new ≡ taken_at (unit_at nodes x) old

-- ---- round a place

-- these are the symbols that stand behind those round a module, in each module round the place that ends ahead, the innermost first
abbrev pub AreOwned : List (List Meaning) → Setting → List Setting → Type 0
AreOwned [] setting round = ⊤
AreOwned (own ∷ owns) setting (outer ∷ round) = (own ≡ drop (length outer.frame) setting.frame) × AreOwned owns outer round
AreOwned (own ∷ owns) setting [] = ⊥
