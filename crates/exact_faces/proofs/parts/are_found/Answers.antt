use Rattle.std.proofs.Common.{sym}
use Rattle.std.specs.Arc.{arc_value}
use Rattle.exact_faces.proofs.Parting.{there-next}
use Rattle.exact_faces.proofs.parts.are_found.Goals as goal

pub loop-index-preserved : goal.loop-index-preserved
loop-index-preserved c =
    there-next c.args.found.now c.args.title.now c.args.part.now c.loop-index.index c.in-Some.place (arc_value c.in-Some.field-0-1.now)
    (sym c.in-Some.ensures) (sym c.if-not-has.ensures) c.loop-index.invariant
