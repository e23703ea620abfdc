-- What is made of modules, one after another.
use Rattle.std.specs.Prelude.{◌≡◌, ◌<◌, ℕ, Bool, List, []}
use Rattle.unit_grammar.specs.Units.{ModuleUnits}
use Rattle.tla_model.specs.Entities.{Meaning, Text}
use Rattle.module_scope.specs.Environments.{first as first_scope}
use Rattle.module_model.specs.Exports.{Exports, exports_of, files_of}
use Rattle.module_model.specs.Imports.{Imports}
use Rattle.module_model.specs.Modules.{text_of}
use Rattle.module_model.specs.Resolution.{words_of, first as first_read, last as last_read}
use Rattle.kind_text.specs.FlatModule.{Extends, FlatModule}
use Rattle.tree_kinds.specs.Standing.{Outside}
use Rattle.module_kinds.specs.ModuleKinds.{last as last_state}
use Rattle.flattened_trees.specs.Leads.{FlatFace}
use Rattle.flattened_trees.specs.Questions.{Question}
use Rattle.flattened_units.specs.Units.{IsModuleMade, Reader, meanings_of, no_leads}
use Rattle.tree_flattener.specs.Steps.{AddsFrame, Steps}
use Rattle.tree_flattener.specs.Worlds.{implied_of, means_of}
use Rattle.tree_flattener.specs.declared.written.Written.{Written}
use Rattle.module_leads.specs.Leading.{face_over, leading_in}
use Rattle.module_leads.specs.Leading as known
use Rattle.module_leads.specs.There.{AllLeadWithin}
use Rattle.unit_scope.specs.declared.reader.ModuleReader.{ModuleReader}
use Rattle.own_symbols.specs.Ahead.{own_ahead}
use Rattle.unit_flattener.specs.Scopes.{IsKept}
use Rattle.unit_flattener.specs.declared.flattener.UnitFlattener.{UnitFlattener}
use Rattle.unit_flattener.specs.declared.modules.Tables.{Tables}

-- each end of a nested module among the units of a module belongs to one that begins there
abbrev pub EndsAreBegun : Imports → List ℕ → ModuleUnits → Type 0
EndsAreBegun imports source units = (own_ahead (text_of source units) (files_of imports) (words_of units) (first_read (files_of imports) source units) units.units).round ≡ []

-- the own symbols of the nested modules that begin in it
abbrev pub AreOwnOf : Text → Imports → List ℕ → ModuleUnits → List (List Meaning) → Type 0
AreOwnOf text imports source units begun = begun ≡ (own_ahead text (files_of imports) (words_of units) (first_read (files_of imports) source units) units.units).begun

-- and each that begins there ends there
abbrev pub BeginsAreEnded : Imports → List ℕ → ModuleUnits → Type 0
BeginsAreEnded imports source units = (last_read (files_of imports) source units).place.round ≡ []

-- between modules: no name is in scope, and all that is known is there
pub record IsBetween (tables : Tables) : Type 0 where
  pub leads : (leading_in tables.leads).leads ≡ no_leads
  pub round : (leading_in tables.leads).round ≡ []
  pub sound : known.IsSound tables.leads
  pub within : AllLeadWithin tables.state.flat (leading_in tables.leads)
  pub locals : tables.state.locals.items ≡ []

-- a module is made over earlier ones, and what it is to its instances has a number
pub record IsModuleWalked (written : Written) (source : List ℕ) (units : ModuleUnits) (files : List ℕ → FlatFace) (outsides : List ℕ → Outside) (old new : Tables) (symbols : Exports) (constant : Bool) (face : ℕ) : Type 0 where
  pub last : Reader
  pub asked : List Question
  pub between : IsBetween new
  pub steps : Steps old.state new.state asked
  pub more_faces : (leading_in old.leads).count < (leading_in new.leads).count
  pub faces : (other : ℕ) → other < (leading_in old.leads).count → (leading_in new.leads).faces other ≡ (leading_in old.leads).faces other
  pub there : face < (leading_in new.leads).count
  pub is : (leading_in new.leads).faces face
      ≡ face_over symbols 0 constant (exports_of (last_state outsides source units).read.place.here.exports) last.setting.leads
  pub holds : (more : FlatModule) → Extends new.state.flat more
      → IsModuleMade more (means_of written) (implied_of written) files outsides source units (meanings_of symbols) last asked

-- code walks before what a module extends, over these tables
pub record IsModuleBegun (tables : Tables) (title : List ℕ) (reader : ModuleReader) (own : List (List Meaning)) (symbols : List Meaning) (code : UnitFlattener) : Type 0 where
  pub leads : leading_in code.leads ≡ known.entered (leading_in tables.leads) symbols 0
  pub sound : known.IsSound tables.leads → known.IsSound code.leads
  pub state : AddsFrame tables.state code.state symbols code.frame
  pub reads : code.reader ≡ reader
  pub modules : IsKept code.modules (first_scope title)
  pub ahead : code.own.items ≡ own
  pub round : code.round.items ≡ []
