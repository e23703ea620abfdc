use Rattle.face_views.proofs.Looking.{IsFirstFrom}
use Rattle.exact_faces.proofs.parts.part_of.Given as goal

abbrev pub invariant-loop-index : goal.invariant-loop-index
invariant-loop-index l = IsFirstFrom l.index l.parts l.title
