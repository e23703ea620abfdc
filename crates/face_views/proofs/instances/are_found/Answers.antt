use Rattle.std.proofs.Common.{Some, nat_eq, sym}
use Rattle.std.specs.Arc.{arc_value}
use Rattle.std.proofs.lemmas.Bool.{eqb-true}
use Rattle.face_views.specs.Found.{IsFound}
use Rattle.face_views.proofs.Looking.{holds-next}
use Rattle.face_views.proofs.instances.are_found.Goals as goal

pub loop-index-preserved : goal.loop-index-preserved
loop-index-preserved c =
    holds-next nat_eq eqb-true (IsFound (Some c.args.part.now) (Some c.args.other.now))
    c.loop-index.index c.args.part.now c.in-Some.place
    (arc_value c.in-Some.field-0-1.now) (sym c.in-Some.ensures)
    c.if-not-has_same.ensures c.loop-index.invariant
