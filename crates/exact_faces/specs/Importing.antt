-- Imports whose faces hold exactly what their exports reach, and those that a face reaches whole.
use Rattle.std.specs.Prelude.{◌≡◌, ℕ, List, Contains, Some}
use Rattle.module_model.specs.Exports.{Instances, face_exports}
use Rattle.module_model.specs.Given.{AreReached, imported}
use Rattle.module_model.specs.Imports.{Imports}
use Rattle.module_model.specs.declared.face.Face.{Face}
use Rattle.exact_faces.specs.Exact.{IsExact}

-- the faces of imports hold exactly what their exports reach
abbrev pub AreExactImports : Imports → Type 0
AreExactImports imports = (name : List ℕ) (face : Face) → imported imports name ≡ Some face → IsExact face

-- each import that is accepted has one of these names
abbrev pub AreNames : List (List ℕ) → Imports → Type 0
AreNames names imports = (name : List ℕ) (face : Face) → imported imports name ≡ Some face → Contains names name

-- each instance that an import exports is among these, if it is accepted
abbrev pub IsImportReached : Instances → Imports → List ℕ → Type 0
IsImportReached found imports name = (face : Face) → imported imports name ≡ Some face → AreReached found (face_exports face)
