use Rattle.std.proofs.Common.{ℕ, List}
use Rattle.std.specs.Str.{bytes_eq}
use Rattle.tla_model.specs.Tables.{lookup}
use Rattle.face_views.specs.Found.{AreFound}
use Rattle.face_views.proofs.Looking.{HoldsBefore}
use Rattle.face_views.proofs.instances.are_all_found.Given as goal

abbrev pub invariant-loop-index : goal.invariant-loop-index
invariant-loop-index l =
    HoldsBefore bytes_eq
    (λ (title : List ℕ). AreFound (lookup bytes_eq l.parts title) (lookup bytes_eq l.others title))
    l.index l.parts
