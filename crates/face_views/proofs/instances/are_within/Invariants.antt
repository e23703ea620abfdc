use Rattle.std.proofs.Common.{Some}
use Rattle.std.specs.Prelude.{nat_eq}
use Rattle.face_views.specs.Found.{IsWithin}
use Rattle.face_views.proofs.Looking.{HoldsBefore}
use Rattle.face_views.proofs.instances.are_within.Given as goal

abbrev pub invariant-loop-index : goal.invariant-loop-index
invariant-loop-index l = HoldsBefore nat_eq (IsWithin (Some l.part) (Some l.other)) l.index l.part
