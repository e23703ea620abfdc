use Rattle.std.proofs.Common.{refl, sym}
use Rattle.std.specs.Arc.{arc_value}
use Rattle.exact_faces.proofs.Parting.{plain-next}
use Rattle.exact_faces.proofs.parts.are_plain.Goals as goal

pub loop-index-preserved : goal.loop-index-preserved
loop-index-preserved c =
    plain-next c.args.found.now c.args.title.now c.args.part.now c.loop-index.index c.in-Some.place (arc_value c.in-Some.field-0-1.now)
    (sym c.in-Some.ensures) (c.if-not-is_plain.ensures refl) c.loop-index.invariant
