-- Faces that hold exactly what their exports reach, among what is found of modules.
use Rattle.std.specs.Prelude.{◌≡◌, ℕ, List, Some}
use Rattle.std.specs.Arc.{arc_value}
use Rattle.tla_model.specs.declared.ids.DeclId.{DeclId}
use Rattle.module_model.specs.declared.face.Face.{Face}
use Rattle.module_model.specs.Exports.{Exports, face_instances, face_outside}
use Rattle.module_model.specs.Given.{IsWhole}
use Rattle.exact_faces.specs.Exact.{IsExact, IsExactOf}
use Rattle.family_tables.specs.Agreement.{accepted_face, found_face}
use Rattle.family_tables.specs.declared.outcome.Outcome.{Outcome}
use Rattle.family_tables.specs.declared.outcome.Outcome.TheVariants as outcome
use Rattle.family_levels.specs.declared.«module».Found.{Found}

-- the face of an outcome, if it has one, holds exactly what its exports reach
abbrev pub IsExactOutcome : Outcome → Type 0
IsExactOutcome outcome = (face : Face) → accepted_face (Some outcome) ≡ Some face → IsExact face

-- and so do those of all modules
abbrev pub AreExact : List (List ℕ × Outcome) → Type 0
AreExact outcomes = (name : List ℕ) (face : Face) → found_face outcomes name ≡ Some face → IsExact face

-- an outcome with such a face of one, or with the same faults
abbrev pub IsExactlyAs : outcome.the_data → outcome.the_data → Type 0
IsExactlyAs (outcome.Refused faults) other = other ≡ outcome.Refused faults
IsExactlyAs (outcome.Accepted face) (outcome.Refused faults) = ⊥
IsExactlyAs (outcome.Accepted face) (outcome.Accepted made) = IsExactOf (arc_value face) (arc_value made)

-- the same is found of a module, with such a face
pub record IsExactly (found made : Found) : Type 0 where
  pub outcome : IsExactlyAs found.outcome made.outcome
  pub number : made.number ≡ found.number
  pub names : made.names ≡ found.names
