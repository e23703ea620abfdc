-- What of tables and of parts stands behind instances that are reached.
use Rattle.std.specs.Prelude.{◌≡◌, ℕ, List, Option, None, Some, false, filter, if◌then◌else◌, is_some, option_map, true}
use Rattle.std.specs.Str.{bytes_eq}
use Rattle.tla_symbols.specs.declared.op.Op.{Op}
use Rattle.tla_model.specs.declared.ids.DeclId.{DeclId}
use Rattle.tla_model.specs.Entities.{Meaning, same_decl}
use Rattle.tla_model.specs.EntityKinds.{is_meant, stands_behind, words_meant}
use Rattle.tla_model.specs.Tables.{Table, lookup}
use Rattle.module_model.specs.Exports.{Exports, face_exports, face_instances, instantiable}
use Rattle.module_model.specs.Parts.{ByText, InText, in_part, reached}
use Rattle.module_model.specs.declared.face.Face.{Face}
use Rattle.exact_faces.specs.Exact.{IsReached}
use Rattle.exact_faces.specs.Found.{Tables, decl_of}

-- the symbols that can be named behind an instance
abbrev pub kept_symbols : List (Op × Meaning) → List (Op × Meaning)
kept_symbols symbols = filter (λ symbol. is_meant stands_behind symbol.1) symbols

-- the names of a table that can be named behind an instance
abbrev pub kept : Table Meaning → Table Meaning
kept table = record { words = words_meant stands_behind table.words; symbols = kept_symbols table.symbols }

-- what is kept of an instance that is found
abbrev pub kept_of : Tables → DeclId → Option (Table Meaning)
kept_of found decl = option_map kept (lookup same_decl found decl)

-- what there is of a second where there is a first
abbrev pub where_some : {A B : Type 0} → Option A → Option B → Option B
where_some None second = None
where_some (Some first) second = second

-- a part has those instances of one which are found, with what is kept of them
abbrev pub IsKeptPart : Tables → List ℕ → InText → InText → Type 0
IsKeptPart found title part new = (place : ℕ) → in_part (Some new) place ≡ where_some (in_part (Some part) place) (kept_of found (decl_of title place))

-- parts have the instances that are found, with what is kept of them
abbrev pub AreKept : Tables → ByText → Type 0
AreKept found new = (decl : DeclId) → reached new decl ≡ kept_of found decl

-- an instance is found, and all of its table is kept
pub record IsPlain (found : Tables) (decl : DeclId) : Type 0 where
  pub table : Table Meaning
  pub stands : lookup same_decl found decl ≡ Some table
  pub whole : kept table ≡ table

-- what is found are instances of these parts
abbrev pub StandIn : Tables → ByText → Type 0
StandIn found parts = (decl : DeclId) (table : Table Meaning) → lookup same_decl found decl ≡ Some table → reached parts decl ≡ Some table

-- ---- the instances of one text

-- all instances of parts are found that the text of a module declares
abbrev pub AreOwnFound : Tables → List ℕ → ByText → Type 0
AreOwnFound found title parts = (decl : DeclId) → bytes_eq decl.«module» title ≡ true → is_some (reached parts decl) ≡ true → is_some (lookup same_decl found decl) ≡ true

-- all of them are found, and each with all of its table kept
abbrev pub AreOwnPlain : Tables → List ℕ → ByText → Type 0
AreOwnPlain found title parts = (decl : DeclId) → bytes_eq decl.«module» title ≡ true → is_some (reached parts decl) ≡ true → IsPlain found decl

-- a part has those instances of a text in parts which are found, with what is kept of them
abbrev pub IsOwnPart : Tables → List ℕ → ByText → InText → Type 0
IsOwnPart found title parts new = (place : ℕ) → in_part (Some new) place ≡ where_some (reached parts (decl_of title place)) (kept_of found (decl_of title place))

-- of the instances that a text declares there is what is kept of them, and the others are those of parts
abbrev pub AreOwnKept : Tables → List ℕ → ByText → ByText → Type 0
AreOwnKept found title parts new = (decl : DeclId) → reached new decl ≡ (if bytes_eq decl.«module» title then kept_of found decl else reached parts decl)

-- the exports of a face reach all of its instances: those of its text are found, and the others have only what can be named behind them
pub record AreReachedAll (face : Face) (found : Tables) : Type 0 where
  pub reached : (decl : DeclId) (entries : Exports) → face_instances face decl ≡ Some entries → IsReached (face_instances face) (face_exports face) decl
  pub own : AreOwnFound found face.«module» face.parts
  pub others : (decl : DeclId) (entries : Exports) → bytes_eq decl.«module» face.«module» ≡ false → face_instances face decl ≡ Some entries → instantiable entries ≡ entries
