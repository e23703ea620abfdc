-- What module names mean, as it is answered in code, and what kinds of entries are looked at.
use Rattle.std.specs.Prelude.{◌≡◌, ⊤, ℕ, Bool, List, [], ◌∷◌, ◌++◌, Option, None, Some, filter, if◌then◌else◌, is_some, not, true}
use Rattle.std.specs.List.{AllByRecursion}
use Rattle.tla_model.specs.declared.ids.DeclId.{DeclId}
use Rattle.tla_model.specs.declared.ids.UnitId.{UnitId}
use Rattle.tla_model.specs.Entities.{Entity, Meaning, same_decl}
use Rattle.tla_model.specs.EntityKinds.{is_instance, is_meant, stands_behind, stands_for_parameter}
use Rattle.tla_model.specs.Tables.{Named, Symbol, Table, Word, has, lookup}
use Rattle.tla_model.specs.Contexts.{Context}
use Rattle.tla_symbols.specs.declared.op.Op.{Op}
use Rattle.module_scope.specs.Environments.{Environment, meaning}
use Rattle.module_model.specs.declared.face.Face.{Face}
use Rattle.module_model.specs.Exports.{Behind, Exports, Known, ModuleView, and_known, behind_along, face_instances, face_outside, found_behind, known_by, none_known, nothing}
use Rattle.module_model.specs.Given.{imported}
use Rattle.module_model.specs.Imports.{Imports}
use Rattle.module_model.specs.Parts.{ByText, reached}
use Rattle.tla_model.specs.declared.names.Meaning.TheVariants.{BuiltIn, Declared}
use Rattle.tree_tasks.specs.declared.held.Held.{Held}
use Rattle.tree_tasks.specs.declared.held.Held.TheVariants as held
use Rattle.instance_leads.specs.declared.kinds.Kind.TheVariants as kind
use Rattle.instance_leads.specs.declared.named.NamedModule.TheVariants as named
use Rattle.instance_leads.specs.declared.ended.Ended.{Ended}
use Rattle.instance_leads.specs.Leading.{Leads, view_at}

-- ---- kinds of entries

-- the entities of a kind
abbrev pub of_kind : kind.the_data → Entity → Bool
of_kind kind.Parameter = stands_for_parameter
of_kind kind.Instantiable = stands_behind

-- the entries of a kind
abbrev pub kept : kind.the_data → Exports → Exports
kept which entries = filter (λ entry. is_meant (of_kind which) entry.1) entries

-- what was found, if it is of a kind
abbrev pub if_kept : (Entity → Bool) → Option Meaning → Option Meaning
if_kept which None = None
if_kept which (Some meaning) = if is_meant which meaning then Some meaning else None

-- ---- modules of names

-- what a module is, by the nested modules that have ended
abbrev pub module_shown : List Ended → named.the_data → ModuleView
module_shown nested named.Missing = nothing
module_shown nested (named.Imported face) = face_outside face.now
module_shown nested (named.Nested number) = view_at nested number

-- where an instance of a module leads
abbrev pub led_by : named.the_data → Held
led_by named.Missing = held.Nowhere
led_by (named.Imported face) = held.Imported face
led_by (named.Nested number) = held.Nested number

-- the module is what the name means: the face of an import, or the nested module of a number
abbrev pub IsMeant : Imports → Environment ℕ → List ℕ → named.the_data → Type 0
IsMeant imports modules name named.Missing = ⊤
IsMeant imports modules name (named.Imported face) = imported imports name ≡ Some face.now
IsMeant imports modules name (named.Nested number) = meaning modules name ≡ Some (Some number)

-- ---- instances of faces

-- what the module exports of which this means an instance, among those that parts hold
abbrev pub table_on : ByText → Option Meaning → Option (Table Meaning)
table_on parts None = None
table_on parts (Some BuiltIn) = None
table_on parts (Some (Declared entity callee)) = if is_instance entity then reached parts callee.decl else None

-- where an instance of a face leads: to what its module exports, and nowhere where it is not there
abbrev pub IsLedBy : Face → Option (Table Meaning) → Held → Type 0
IsLedBy face None held.Nowhere = ⊤
IsLedBy face (Some table) (held.Reached of exports) = (of.now ≡ face) × (exports.now ≡ table)
IsLedBy face _ _ = ⊥

-- something is said of an instance that a name means
abbrev pub IsTold : {A : Type 0} → (DeclId → Option A) → Meaning → Type 0
IsTold said BuiltIn = ⊤
IsTold said (Declared entity callee) = is_instance entity ≡ true → is_some (said callee.decl) ≡ true

-- of each instance among entries
abbrev pub AreTold : {A : Type 0} → (DeclId → Option A) → Exports → Type 0
AreTold said entries = AllByRecursion (λ entry. IsTold said entry.1) entries

-- ---- INSTANCE without a name

-- an INSTANCE, where its module has a parameter to replace
abbrev pub unit_if : Exports → UnitId → Option UnitId
unit_if [] unit = None
unit_if (parameter ∷ parameters) unit = Some unit

-- ---- where what a face exports leads

-- an instance of a face is there, and leads to what its module exports
pub record IsOfFace (face : Face) (decl : DeclId) (place : Held) : Type 0 where
  pub table : Table Meaning
  pub stands : reached face.parts decl ≡ Some table
  pub led : IsLedBy face (Some table) place

-- instances lead where the face says
abbrev pub AreOfFace : Face → Leads → Type 0
AreOfFace face leads = (decl : DeclId) (led : Held) → lookup same_decl leads decl ≡ Some led → IsOfFace face decl led

-- what stands behind an instance at each path, by the instances of a face
abbrev pub along : Face → Meaning → Behind
along face meaning path = behind_along (face_instances face) (found_behind (face_instances face) (Some meaning)) path

-- what stands behind the instances among these
abbrev pub known_here : Face → List Meaning → Known
known_here face [] = none_known
known_here face (meaning ∷ rest) = and_known (known_by (along face meaning) meaning) (known_here face rest)

-- ---- nested modules that end

-- a table with a name behind the others
abbrev pub with_last : Table Meaning → Named → Meaning → Table Meaning
with_last table (Word word) meaning = record table { words = table.words ++ (word, meaning) ∷ [] }
with_last table (Symbol op) meaning = record table { symbols = table.symbols ++ (op, meaning) ∷ [] }

-- the context does not hold the word
abbrev pub is_new_word : Context → List ℕ × Meaning → Bool
is_new_word context word = not (has context (Word word.0))

-- the context does not hold the symbol
abbrev pub is_new_symbol : Context → Op × Meaning → Bool
is_new_symbol context symbol = not (has context (Symbol symbol.0))

-- what is noted stays
abbrev pub AreIn : Leads → Leads → Type 0
AreIn others leads = (decl : DeclId) (led : Held) → lookup same_decl leads decl ≡ Some led → lookup same_decl others decl ≡ Some led
