-- How the instances are found which exports reach.
use Rattle.std.specs.Prelude.{◌≡◌, ◌≤◌, ◌+◌, ⊤, ℕ, List, [], ◌∷◌, ◌++◌, Some, filter, if◌then◌else◌, is_some, length, map}
use Rattle.std.specs.Prelude.{slice_get, true}
use Rattle.std.specs.Borrow.{Bor}
use Rattle.tla_symbols.specs.declared.op.Op.{Op}
use Rattle.tla_model.specs.declared.ids.DeclId.{DeclId}
use Rattle.tla_model.specs.declared.names.Meaning.TheVariants.{BuiltIn, Declared}
use Rattle.tla_model.specs.Entities.{Meaning, same_decl}
use Rattle.tla_model.specs.EntityKinds.{is_instance, is_meant, words_meant}
use Rattle.tla_model.specs.Tables.{Table, lookup}
use Rattle.module_model.specs.Exports.{Exports, Instances, face_exports, face_instances}
use Rattle.module_model.specs.Parts.{ByText}
use Rattle.exact_faces.specs.Exact.{IsReached}
use Rattle.exact_faces.specs.declared.reached.Search.{Search}
use Rattle.exact_faces.specs.Found.{AreFound, HasMore, Tables, decl_of, told}

-- this holds of the declaration that is meant; what is built in has none
abbrev pub OfDecl : (DeclId → Type 0) → Meaning → Type 0
OfDecl P BuiltIn = ⊤
OfDecl P (Declared entity callee) = P callee.decl

-- what the instances among entries mean
abbrev pub instances_among : Exports → List Meaning
instances_among entries = map (λ entry. entry.1) (filter (λ entry. is_meant is_instance entry.1) entries)

-- the same of words, and of symbols
abbrev pub of_words : List (List ℕ × Meaning) → List Meaning
of_words words = map (λ word. word.1) (words_meant is_instance words)

abbrev pub of_symbols : List (Op × Meaning) → List Meaning
of_symbols symbols = map (λ symbol. symbol.1) (filter (λ symbol. is_meant is_instance symbol.1) symbols)

-- meanings as they are shown to who looks at them
abbrev pub shown : List (Bor Meaning) → List Meaning
shown meanings = map (λ meaning. meaning.now) meanings

-- the declarations of the instances of parts
abbrev pub listed : ByText → List DeclId
listed [] = []
listed (part ∷ parts) = map (λ entry. decl_of part.0 entry.0) part.1 ++ listed parts

-- how many of these are not found
abbrev pub missing : List DeclId → Instances → ℕ
missing [] found = 0
missing (decl ∷ decls) found = (if is_some (found decl) then 0 else 1) + missing decls found

-- how many are found and can still be found
abbrev pub work : ByText → Tables → ℕ
work parts found = length found + missing (listed parts) (told found)

-- what is found so far is of the face, each instance once
pub record IsSearch (s : Search) : Type 0 where
  pub known : AreFound s.face.now (told s.found)
  pub each : (index : ℕ) (entry : DeclId × Table Meaning) → slice_get s.found index ≡ Some entry → lookup same_decl s.found entry.0 ≡ Some entry.1

-- more is found of the same face, and no more work is left
pub record HasGrown (old new : Search) : Type 0 where
  pub face : new.face ≡ old.face
  pub found : HasMore new.found old.found
  pub less : work new.face.now.parts new.found ≤ work old.face.now.parts old.found

-- the exports reach an instance, by what is found
abbrev pub CanFind : Search → DeclId → Type 0
CanFind s decl = IsReached (told s.found) (face_exports s.face.now) decl

-- an instance is found, if it is one of the face
abbrev pub HasFound : Search → DeclId → Type 0
HasFound s decl = is_some (face_instances s.face.now decl) ≡ true → is_some (told s.found decl) ≡ true

-- an instance is among those that are found
abbrev pub IsFound : Tables → DeclId → Type 0
IsFound found decl = is_some (told found decl) ≡ true

-- this holds of each declaration that is meant
abbrev pub OfAll : (DeclId → Type 0) → List Meaning → Type 0
OfAll P meanings = (index : ℕ) (meaning : Meaning) → slice_get meanings index ≡ Some meaning → OfDecl P meaning
