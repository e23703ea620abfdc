-- What same faces are to those that name their modules.
use Rattle.std.proofs.Common.{◌≡◌}
use Rattle.module_model.specs.declared.face.Face.{Face}
use Rattle.module_model.specs.Exports.{entries_along, face_outside, parameters_in}
use Rattle.face_views.specs.Same.{IsSameFace}

pub look-alike : (one other : Face) → IsSameFace one other → face_outside one ≡ face_outside other
look-alike one other same = λ i. record { entries = entries_along (λ decl. same.instances decl i) (same.exports i); parameters = parameters_in (same.exports i) }
