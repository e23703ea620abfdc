-- When faces are the same.
use Rattle.std.specs.Prelude.{◌≡◌}
use Rattle.module_model.specs.declared.face.Face.{Face}
use Rattle.tla_model.specs.declared.ids.DeclId.{DeclId}
use Rattle.module_model.specs.Exports.{face_exports, face_instances}

-- two faces are of one module, export the same and reach the same instances
pub record IsSameFace (one other : Face) : Type 0 where
  pub named : one.«module» ≡ other.«module»
  pub exports : face_exports one ≡ face_exports other
  pub instances : (decl : DeclId) → face_instances one decl ≡ face_instances other decl
