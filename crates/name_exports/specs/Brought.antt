-- The names that a module brings, put among those of a module that is read.
use Rattle.std.specs.Prelude.{◌≡◌, ◌||◌, ℕ, Bool, false, ◌&&◌, List, [], Option, Some, None, map, nat_eq, take, if◌then◌else◌}
use Rattle.std.specs.Str.{bytes_eq}
use Rattle.std.specs.Borrow.{Bor}
use Rattle.tla_model.specs.declared.ids.UnitId.{UnitId}
use Rattle.module_model.specs.declared.imported.Import.{Import}
use Rattle.tla_model.specs.Tables.{AreNew, Table, Named as Name}
use Rattle.tla_model.specs.Entities.{Meaning}
use Rattle.module_scope.specs.Environments.{Environment}
use Rattle.module_model.specs.Exports.{Exports, ModuleView, exported, exports_of, import_outside, instantiable}
use Rattle.module_model.specs.Modules.{Reading, brings_clash, clashes, joined, with_entry}
use Rattle.module_model.specs.Instances.{through}
use Rattle.name_exports.specs.declared.names.Names.{Names}
use Rattle.name_context.specs.AsTables.{AreApart, behind, context_of, first_words, usable_words}

-- what a table exports, if there is one
abbrev pub shown_by : Option (Bor (Table Meaning)) → Exports
shown_by None = []
shown_by (Some table) = exports_of table.now

-- what an imported module exports
abbrev pub import_exports : Option Import → Exports
import_exports import = exported (import_outside import)

-- module names that are taken, and what those are that can be named
abbrev pub ModuleNames : Type 0
ModuleNames = Environment ModuleView

-- a module of this title that is read, with the module names taken there
abbrev pub as_read : List ℕ → ModuleNames → Names → Reading
as_read title taken names = record { name = title; context = context_of names.context; exports = names.exports; modules = taken }

-- the module with an entry that another one brings, which it exports where no LOCAL brings it
abbrev pub brought : Bool → Reading → Name × Meaning → Reading
brought local reading entry = if clashes reading.context entry then reading else with_entry local reading entry.0 entry.1

-- the entries that another module brings were put, which are exported where they are not LOCAL, and whether one of them
-- clashes
pub record IsJoined (local : Bool) (old new : Names) (clash : Bool) (entries : Exports) : Type 0 where
  pub reads : (title : List ℕ) → (taken : ModuleNames) → as_read title taken new ≡ joined local (as_read title taken old) entries
  pub tells : (title : List ℕ) → (taken : ModuleNames) → clash ≡ brings_clash (as_read title taken old) entries

-- the same of a module that is extended
abbrev pub IsBrought : Names → Names → Bool → Exports → Type 0
IsBrought old new clash entries = IsJoined false old new clash entries

-- the entries of a module as an INSTANCE without a name brings them: through it, or as they are where nothing is replaced
abbrev pub brought_through : Option UnitId → Exports → Exports
brought_through None entries = entries
brought_through (Some unit) entries = map (λ entry. (entry.0, through unit entry.1)) entries

-- what a meaning is behind an INSTANCE without a name
abbrev pub passed_through : Option UnitId → Meaning → Meaning
passed_through None meaning = meaning
passed_through (Some unit) meaning = through unit meaning

-- the definitions and instances among entries, as an INSTANCE without a name brings them
abbrev pub behind_through : Option UnitId → Exports → Exports
behind_through unit entries = brought_through unit (instantiable entries)

-- some of the entries were put, and these are to come
pub record IsBringing (local : Bool) (old now : Names) (clash : Bool) (rest all : Exports) : Type 0 where
  pub reads : (title : List ℕ) → (taken : ModuleNames) → joined local (as_read title taken now) rest ≡ joined local (as_read title taken old) all
  pub tells : (title : List ℕ) → (taken : ModuleNames) → (clash || brings_clash (as_read title taken now) rest) ≡ brings_clash (as_read title taken old) all

-- so many words of a table are the first that a module exports, and the first behind the first ones of its context; the
-- table has none of these, and no word twice
pub record AreFirst (names : Names) (words : List (List ℕ × Meaning)) (count : ℕ) : Type 0 where
  pub once : AreNew bytes_eq [] words
  pub apart : AreApart words (first_words names.context)
  pub shown : take count names.exports.words ≡ take count words
  pub seen : take count (behind names.context) ≡ usable_words (take count words)
