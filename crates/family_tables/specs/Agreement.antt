-- Faces of modules that were found, which go together, and those among them that a module imports.
use Rattle.std.specs.Prelude.{◌≡◌, ⊤, ℕ, List, true, Option, Some, None, IsSome}
use Rattle.std.specs.Arc.{arc_value}
use Rattle.std.specs.Str.{bytes_eq}
use Rattle.tla_model.specs.declared.ids.DeclId.{DeclId}
use Rattle.module_model.specs.declared.face.Face.{Face}
use Rattle.module_model.specs.declared.imported.Import.{Import}
use Rattle.module_model.specs.Exports.{Exports, face_instances}
use Rattle.module_model.specs.Given.{AgreeOn, IsWhole, face_of, imported}
use Rattle.module_model.specs.Imports.{Imports}
use Rattle.family_tables.specs.Tables.{entry_of}
use Rattle.family_tables.specs.declared.outcome.Outcome.{Outcome}

-- the face of a module that is accepted
abbrev pub accepted_face : Option Outcome → Option Face
accepted_face (Some (Outcome.Accepted face)) = Some (arc_value face)
accepted_face _ = None

-- the face of the module of a name, if it is accepted
abbrev pub found_face : List (List ℕ × Outcome) → List ℕ → Option Face
found_face outcomes name = accepted_face (entry_of outcomes name)

-- the faces go together: each is that of its name, none lacks an instance, two say the same of one, and each is declared in the text of a module that has an outcome
pub record AreAgreed (outcomes : List (List ℕ × Outcome)) : Type 0 where
  pub named : (name : List ℕ) (face : Face) → found_face outcomes name ≡ Some face → face.«module» ≡ name
  pub whole : (name : List ℕ) (face : Face) → found_face outcomes name ≡ Some face → IsWhole face
  pub agree : (name other : List ℕ) (one two : Face) → found_face outcomes name ≡ Some one → found_face outcomes other ≡ Some two → AgreeOn (face_instances one) (face_instances two)
  pub declared : (name : List ℕ) (face : Face) (decl : DeclId) (entries : Exports) → found_face outcomes name ≡ Some face → face_instances face decl ≡ Some entries → IsSome (entry_of outcomes decl.«module»)

-- ---- imports

-- an import of a name that is accepted is the face that was found
abbrev pub IsFrom : List (List ℕ × Outcome) → List ℕ → Import → Type 0
IsFrom outcomes name import = (face : Face) → face_of (Some import) ≡ Some face → found_face outcomes name ≡ Some face

-- so are all of these
abbrev pub AreFrom : List (List ℕ × Outcome) → Imports → Type 0
AreFrom outcomes imports = (name : List ℕ) (face : Face) → imported imports name ≡ Some face → found_face outcomes name ≡ Some face

-- ---- one more module

-- where an instance of the face of a further module comes from: its own text, or a face that is there
pub data IsTaken (outcomes : List (List ℕ × Outcome)) (title : List ℕ) (decl : DeclId) (entries : Exports) : Type 0 where
  Own : bytes_eq decl.«module» title ≡ true → IsTaken outcomes title decl entries
  Shared : (name : List ℕ) (face : Face) → found_face outcomes name ≡ Some face → face_instances face decl ≡ Some entries → IsTaken outcomes title decl entries

-- a further face that goes with these
pub record IsAgreedFace (outcomes : List (List ℕ × Outcome)) (title : List ℕ) (face : Face) : Type 0 where
  pub named : face.«module» ≡ title
  pub whole : IsWhole face
  pub from : (decl : DeclId) (entries : Exports) → face_instances face decl ≡ Some entries → IsTaken outcomes title decl entries

-- an outcome whose face, if there is one, goes with these
abbrev pub IsAgreed : List (List ℕ × Outcome) → List ℕ → Outcome → Type 0
IsAgreed outcomes title (Outcome.Refused faults) = ⊤
IsAgreed outcomes title (Outcome.Accepted face) = IsAgreedFace outcomes title (arc_value face)
