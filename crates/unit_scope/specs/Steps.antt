-- How code reads on in a text: what it leaves behind it, and what it finds.
use Rattle.std.specs.Prelude.{◌≡◌, ℕ, Bool, false, List, [], ◌∷◌, ◌++◌, if◌then◌else◌, length, slice_get}
use Rattle.tla_symbols.specs.declared.lexeme.Lexeme.{Lexeme}
use Rattle.tla_tree.specs.Syntax.{Tree}
use Rattle.unit_grammar.specs.Units.{ModuleUnits, UnitTree}
use Rattle.tla_model.specs.declared.names.Binder.{Binder}
use Rattle.tla_model.specs.declared.names.Finding.TheVariants.{InstanceClashes}
use Rattle.tla_model.specs.Entities.{Text}
use Rattle.tla_model.specs.Scopes.{Finding, all_refused}
use Rattle.module_model.specs.Exports.{Exports, ModuleView, entries_from, exports_by, exports_of, files_of, none_known, parameters_in}
use Rattle.module_model.specs.Imports.{Imports}
use Rattle.module_model.specs.Instances.{brought_by, nested_view, paths_in}
use Rattle.module_model.specs.Modules.{Reading, all_clashing, begun_in, brings_clash, declare_all, extends_all, joined, left, unread}
use Rattle.module_model.specs.NamedModules.{exported_known, known_from_all, unit_of, view_of}
use Rattle.module_model.specs.Resolution as resolution
use Rattle.module_model.specs.Resolution.{ReadState, clash_by, first, found_from, found_in, found_of, instance_brings, known_brought, last, module_named, read_on, with_known, words_of}
use Rattle.instance_leads.specs.Leading.{parameters_shown}
use Rattle.unit_scope.specs.EnclosingReadings.{IsAt}
use Rattle.unit_scope.specs.Readings.{Over, files_over}
use Rattle.unit_scope.specs.declared.reader.ModuleReader.{ModuleReader}

-- from one place to another, by what the text is read over
abbrev pub Step : Type 0
Step = Over → ReadState → ReadState

-- what is found at a place
abbrev pub Finds : Type 0
Finds = Over → ReadState → List Finding

-- wherever code read, it reads behind the step then
abbrev pub Leads : Text → Step → ModuleReader → ModuleReader → Type 0
Leads text step old new = (over : Over) → (state : ReadState) → IsAt text over old state → IsAt text over new (step over state)

-- wherever code read, what is found there was appended
abbrev pub Tells : Text → Finds → ModuleReader → List Finding → List Finding → Type 0
Tells text finds old found now = (over : Over) → (state : ReadState) → IsAt text over old state → now ≡ found ++ finds over state

-- ---- units

-- behind a unit
abbrev pub behind_unit : Text → UnitTree → Step
behind_unit text unit over state = resolution.after text (files_over over) over.words state unit

-- what is found in it
abbrev pub found_at : Text → UnitTree → Finds
found_at text unit over state = found_in text (files_over over) over.words over.paths state unit

-- behind these units
abbrev pub behind_units : Text → List UnitTree → Step
behind_units text units over state = resolution.read_all text (files_over over) over.words state units

-- what is found in them
abbrev pub found_along : Text → List UnitTree → Finds
found_along text units over state = found_from text (files_over over) over.words over.paths state units

-- a unit is read
pub record IsRead (text : Text) (unit : UnitTree) (old new : ModuleReader) (found now : List Finding) : Type 0 where
  pub state : Leads text (behind_unit text unit) old new
  pub findings : Tells text (found_at text unit) old found now

-- ---- parts of units

-- before the names of a unit, with what stands behind the instances that can be named in it
abbrev pub noted : Text → UnitTree → Step
noted text unit over state = read_on text (files_over over) over.words state unit state.place.here

-- what is found in the tree of a unit
abbrev pub found_below : Text → UnitTree → Tree → Finds
found_below text unit x over state = found_of text (files_over over) over.words over.paths state unit x

-- behind declarations of these names
abbrev pub declaring : Text → List Binder → Step
declaring text binders over state = record { place = record { here = declare_all text false state.place.here binders; round = state.place.round }; known = state.known }

-- behind a unit that declares these names
abbrev pub declared : Text → UnitTree → Bool → List Binder → Step
declared text unit local binders over state = read_on text (files_over over) over.words state unit (declare_all text local state.place.here binders)

-- what is found where names are declared
abbrev pub refused : Text → List Binder → Finds
refused text binders over state = all_refused text state.place.here.context binders

-- the module of a name
abbrev pub named_view : Text → Lexeme → Over → ReadState → ModuleView
named_view text l over state = view_of text (module_named text (files_over over) over.words state) l

-- what an INSTANCE without a name brings of it
abbrev pub brought_in : Text → Lexeme → Over → ReadState → Exports
brought_in text l over state = brought_by (unit_of text over.words l) (named_view text l over state)

-- behind an INSTANCE without a name, but for what stands behind the instances that it brings
abbrev pub joined_with : Text → Bool → Lexeme → Step
joined_with text local l over state = record { place = record { here = joined local state.place.here (brought_in text l over state); round = state.place.round }; known = state.known }

-- the same, with what stands behind these
abbrev pub brought_with : Text → Bool → Lexeme → Step
brought_with text local l over state = with_known text (files_over over) over.words (joined_with text local l over state) (exported_known (named_view text l over state))

-- what is found at its name
abbrev pub clashes_at : Text → Lexeme → Finds
clashes_at text l over state = if brings_clash state.place.here (brought_in text l over state) then InstanceClashes l ∷ [] else []

-- behind a unit that is an INSTANCE without a name, if its tree is one
abbrev pub instanced : Text → UnitTree → Bool → Tree → Step
instanced text unit local x over state =
    with_known text (files_over over) over.words
    (read_on text (files_over over) over.words state unit (joined local state.place.here (instance_brings text (files_over over) over.words state x)))
    (known_brought text (files_over over) over.words state x)

-- what is found in it
abbrev pub found_instanced : Text → UnitTree → Tree → Finds
found_instanced text unit x over state = found_below text unit x over state ++ clash_by text (files_over over) over.words state x

-- ---- nested modules

-- the module of a text before what it extends, with nothing behind instances as yet
abbrev pub unread_state : Text → ReadState
unread_state text = record { place = record { here = unread text; round = [] }; known = none_known }

-- inside a nested module of this title, before what it extends
abbrev pub entered : List ℕ → Step
entered title over state = record { place = record { here = begun_in state.place.here title; round = state.place.here ∷ state.place.round }; known = state.known }

-- behind the innermost module
abbrev pub ended : Step
ended over state = record { place = left state.known state.place.here state.place.round; known = state.known }

-- wherever code read in a nested module, the parameters of the next one that has ended are the parameters of that one
abbrev pub HasParameters : Text → ModuleReader → ModuleReader → Type 0
HasParameters text old new =
    (over : Over) (state : ReadState) (outer : Reading) (round : List Reading) → IsAt text over old state → state.place.round ≡ outer ∷ round
    → parameters_shown (slice_get new.scope.nested.items (length old.scope.nested.items)) ≡ (nested_view state.known outer.context (exports_of state.place.here.exports)).parameters

-- behind what a module extends, but for what stands behind the instances that these modules export
abbrev pub extending : Text → List Lexeme → Step
extending text names over state =
    record { place = record { here = extends_all text (exports_by (files_over over)) state.place.here names; round = state.place.round }; known = state.known }

-- the same, with what stands behind these
abbrev pub extended_with : Text → List Lexeme → Step
extended_with text names over state =
    with_known text (files_over over) over.words (extending text names over state) (known_from_all text (module_named text (files_over over) over.words state) names)

-- what is found where modules are extended
abbrev pub clashing : Text → List Lexeme → Finds
clashing text names over state = all_clashing text (exports_by (files_over over)) state.place.here names

-- ---- modules

-- what a module is read over, by its imports
abbrev pub over_for : Imports → ModuleUnits → Over
over_for imports units = record { imports = imports; words = words_of units; paths = paths_in units.units }

-- code reads a module before what it extends
abbrev pub IsUnread : Text → Imports → ModuleUnits → ModuleReader → Type 0
IsUnread text imports units read = IsAt text (over_for imports units) read (unread_state text)

-- code reads a module behind what it extends
abbrev pub IsFirst : Text → Imports → List ℕ → ModuleUnits → ModuleReader → Type 0
IsFirst text imports source units read = IsAt text (over_for imports units) read (first (files_of imports) source units)

-- code has read a module
abbrev pub IsLast : Text → Imports → List ℕ → ModuleUnits → ModuleReader → Type 0
IsLast text imports source units read = IsAt text (over_for imports units) read (last (files_of imports) source units)

-- what a module is to others, by what it is read as
abbrev pub outside_at : ReadState → ModuleView
outside_at state = record { entries = entries_from state.known (exports_of state.place.here.exports); parameters = parameters_in (exports_of state.place.here.exports) }
