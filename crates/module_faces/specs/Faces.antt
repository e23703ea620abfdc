-- The faces of modules: their own, or that of one that is not accepted.
use Rattle.std.specs.Prelude.{◌≡◌, ℕ, List, [], Option, Some, None}
use Rattle.module_model.specs.declared.face.Face.{Face}
use Rattle.module_model.specs.Exports.{face_exports}

-- the face of the module of this name where it is not accepted: it exports nothing, and reaches no instance
pub record IsRefusedFace (title : List ℕ) (face : Face) : Type 0 where
  pub named : face.«module» ≡ title
  pub exports : face_exports face ≡ []
  pub parts : face.parts ≡ []

-- the face that a module has of its own, or else that of one that is not accepted
abbrev pub IsOwnOrRefused : List ℕ → Option Face → Face → Type 0
IsOwnOrRefused title (Some own) face = face ≡ own
IsOwnOrRefused title None face = IsRefusedFace title face
