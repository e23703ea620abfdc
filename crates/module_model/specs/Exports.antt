-- What modules are to those that name them, and where it comes from for the imported ones: from their faces.
use Rattle.std.specs.Prelude.{ℕ, List, [], ◌∷◌, ◌++◌, Option, Some, None, filter, if◌then◌else◌, unwrap_or}
use Rattle.std.specs.Option.{option_or}
use Rattle.tla_symbols.specs.declared.op.Op.{Op}
use Rattle.tla_model.specs.declared.names.Meaning.TheVariants.{BuiltIn, Declared}
use Rattle.module_model.specs.declared.face.Face.{Face}
use Rattle.tla_model.specs.declared.ids.DeclId.{DeclId}
use Rattle.module_model.specs.declared.imported.Import.{Import}
use Rattle.module_model.specs.Imports.{Imports, import_of}
use Rattle.module_model.specs.Parts.{ByText, reached}
use Rattle.tla_model.specs.Tables.{Table, Named, Word, Symbol, lookup, same_named}
use Rattle.tla_model.specs.Entities.{Meaning, same_decl}
pub use Rattle.tla_model.specs.EntityKinds.{is_instance, is_meant, stands_behind, stands_for_parameter}
use Rattle.std.specs.Arc.{arc_value}

-- names with what they mean outside the module
abbrev pub Exports : Type 0
Exports = List (Named × Meaning)

-- ---- kinds of entries

-- the declared constants and variables among entries: INSTANCE replaces them
abbrev pub parameters_in : Exports → Exports
parameters_in entries = filter (λ entry. is_meant stands_for_parameter entry.1) entries

-- the definitions and instances among entries: they stand behind an instance, and INSTANCE without a name brings them
abbrev pub instantiable : Exports → Exports
instantiable entries = filter (λ entry. is_meant stands_behind entry.1) entries

-- ---- what stands behind instances

-- what an entry of this name means
abbrev pub entry_of : Exports → Named → Option Meaning
entry_of entries name = lookup same_named entries name

-- names that lead through instances, one after another
abbrev pub Path : Type 0
Path = List Named

-- the entries at each path that leads on from an instance
abbrev pub Behind : Type 0
Behind = Path → Exports

-- what stands behind instances, by their declarations, as far as that is known
abbrev pub Known : Type 0
Known = DeclId → Option Behind

-- nothing is known
abbrev pub none_known : Known
none_known decl = None

-- what stands behind one instance
abbrev pub known_as : DeclId → Behind → Known
known_as instance behind decl = if same_decl decl instance then Some behind else None

-- what was known stays, and more is
abbrev pub and_known : Known → Known → Known
and_known known more decl = option_or (known decl) (more decl)

-- what is found, and no entries where nothing is
abbrev pub at_path : Option Behind → Path → Exports
at_path None path = []
at_path (Some behind) path = behind path

-- what stands behind a name that means this; what is no instance has nothing behind it
abbrev pub behind_meaning : Known → Option Meaning → Behind
behind_meaning known None path = []
behind_meaning known (Some BuiltIn) path = []
behind_meaning known (Some (Declared entity callee)) path = if is_instance entity then at_path (known callee.decl) path else []

-- the entries at each path from these; the empty one leads to themselves
abbrev pub entries_from : Known → Exports → Path → Exports
entries_from known entries [] = entries
entries_from known entries (name ∷ path) = behind_meaning known (entry_of entries name) path

-- one name further along a path
abbrev pub onward : Behind → Named → Behind
onward behind name path = behind (name ∷ path)

-- ---- what a module is to one that names it

-- the entries at each path from what it exports, and the constants and variables that it declares or extends
pub record ModuleView : Type 0 where
  pub entries : Path → Exports
  pub parameters : Exports

-- what a module that is not there, or not accepted, is to others
abbrev pub nothing : ModuleView
nothing = record { entries = λ path. []; parameters = [] }

-- what a module exports
abbrev pub exported : ModuleView → Exports
exported view = view.entries []

-- what the modules export
abbrev pub exports_by : (List ℕ → ModuleView) → List ℕ → Exports
exports_by files name = exported (files name)

-- what stands behind an instance of a module: its definitions and instances, and what stands behind these
abbrev pub behind_instance : ModuleView → Behind
behind_instance view [] = instantiable (exported view)
behind_instance view (name ∷ path) = view.entries (name ∷ path)

-- what stands behind an entry, where it is an instance
abbrev pub known_by : Behind → Meaning → Known
known_by behind BuiltIn = none_known
known_by behind (Declared entity callee) = if is_instance entity then known_as callee.decl behind else none_known

-- what stands behind the instances among entries of a module
abbrev pub known_among : ModuleView → Exports → Known
known_among view [] = none_known
known_among view (entry ∷ rest) = and_known (known_by (onward view.entries entry.0) entry.1) (known_among view rest)

-- ---- tables as lists

-- the identifiers of a table as entries
abbrev pub of_words : List (List ℕ × Meaning) → Exports
of_words [] = []
of_words (entry ∷ rest) = (Word entry.0, entry.1) ∷ of_words rest

-- the symbols of a table as entries
abbrev pub of_symbols : List (Op × Meaning) → Exports
of_symbols [] = []
of_symbols (entry ∷ rest) = (Symbol entry.0, entry.1) ∷ of_symbols rest

-- a table as a list: identifiers, then symbols
abbrev pub exports_of : Table Meaning → Exports
exports_of table = of_words table.words ++ of_symbols table.symbols

-- what a table exports, if there is one
abbrev pub exported_by : Option (Table Meaning) → Exports
exported_by None = []
exported_by (Some table) = exports_of table

-- ---- faces

-- what the modules of instances export, by the declarations of these
abbrev pub Instances : Type 0
Instances = DeclId → Option Exports

-- what the module of an instance exports, by a table of it
abbrev pub standing : Option (Table Meaning) → Option Exports
standing None = None
standing (Some table) = Some (exports_of table)

-- the instances of parts
abbrev pub instances_in : ByText → Instances
instances_in parts decl = standing (reached parts decl)

-- the instances of a face
abbrev pub face_instances : Face → Instances
face_instances face = instances_in face.parts

-- what a face exports
abbrev pub face_exports : Face → Exports
face_exports face = exports_of (arc_value face.exports)

-- what the module exports of an instance that a name means, among those of a face; what is no instance has none
abbrev pub found_behind : Instances → Option Meaning → Exports
found_behind instances None = []
found_behind instances (Some BuiltIn) = []
found_behind instances (Some (Declared entity callee)) = if is_instance entity then unwrap_or (instances callee.decl) [] else []

-- what stands behind an instance whose module exports these: its definitions and instances, and what stands behind these
abbrev pub behind_along : Instances → Exports → Behind
behind_along instances entries [] = instantiable entries
behind_along instances entries (name ∷ path) = behind_along instances (found_behind instances (entry_of entries name)) path

-- the entries at each path from these, by the instances of a face
abbrev pub entries_along : Instances → Exports → Path → Exports
entries_along instances entries [] = entries
entries_along instances entries (name ∷ path) = behind_along instances (found_behind instances (entry_of entries name)) path

-- what a module with this face is to one that names it
abbrev pub face_outside : Face → ModuleView
face_outside face = record { entries = entries_along (face_instances face) (face_exports face); parameters = parameters_in (face_exports face) }

-- what an import is to the module that names it; one at fault is nothing
abbrev pub import_outside : Option Import → ModuleView
import_outside (Some (Import.Module face)) = face_outside (arc_value face)
import_outside _ = nothing

-- the imported module of a name
abbrev pub files_of : Imports → List ℕ → ModuleView
files_of imports name = import_outside (import_of imports name)
