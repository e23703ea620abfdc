-- What modules bring, as code lists it.
use Rattle.std.specs.Prelude.{◌≡◌, ℕ, List, ◌∷◌}
use Rattle.tla_symbols.specs.declared.lexeme.Lexeme.{Lexeme}
use Rattle.tla_model.specs.Tables.{Table}
use Rattle.tla_model.specs.Entities.{Meaning, Text}
use Rattle.module_model.specs.Exports.{Exports, exported, exports_of, instantiable}
use Rattle.module_model.specs.Instances.{brought_by, nested_view}
use Rattle.module_model.specs.Modules.{Reading}
use Rattle.module_model.specs.NamedModules.{unit_of, view_of}
use Rattle.module_model.specs.Resolution.{ReadState, module_named}
use Rattle.unit_scope.specs.EnclosingReadings.{IsAt}
use Rattle.unit_scope.specs.Readings.{Over, files_over}
use Rattle.unit_scope.specs.declared.reader.ModuleReader.{ModuleReader}

-- wherever code reads, this is what the module of a name brings to one that extends it: its definitions and instances
abbrev pub IsExtended : Text → ModuleReader → List ℕ → Exports → Type 0
IsExtended text read name entries = (over : Over) (state : ReadState) → IsAt text over read state → entries ≡ instantiable (exported (module_named text (files_over over) over.words state name))

-- and this is what an INSTANCE without a name brings of it, by the name of the module
abbrev pub IsInstantiated : Text → ModuleReader → Lexeme → Exports → Type 0
IsInstantiated text read l entries =
    (over : Over) (state : ReadState) → IsAt text over read state → entries ≡ brought_by (unit_of text over.words l) (view_of text (module_named text (files_over over) over.words state) l)

-- and these are its parameters
abbrev pub AreParameters : Text → ModuleReader → List ℕ → Exports → Type 0
AreParameters text read name entries = (over : Over) (state : ReadState) → IsAt text over read state → entries ≡ (module_named text (files_over over) over.words state name).parameters

-- wherever code read in a nested module, these are the parameters of that module at its end
abbrev pub AreOwn : Text → ModuleReader → Exports → Type 0
AreOwn text read entries =
    (over : Over) (state : ReadState) (outer : Reading) (round : List Reading) → IsAt text over read state → state.place.round ≡ outer ∷ round
    → entries ≡ (nested_view state.known outer.context (exports_of state.place.here.exports)).parameters

-- wherever code reads, this is what the module exports so far
abbrev pub IsExported : Text → ModuleReader → Table Meaning → Type 0
IsExported text read table = (over : Over) (state : ReadState) → IsAt text over read state → table ≡ state.place.here.exports
