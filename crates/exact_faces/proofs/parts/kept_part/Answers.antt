use Rattle.std.proofs.Common.{sym}
use Rattle.std.specs.Arc.{arc_value}
use Rattle.exact_faces.proofs.Parting.{part-next}
use Rattle.exact_faces.proofs.parts.kept_part.Goals as goal

pub loop-index-preserved : goal.loop-index-preserved
loop-index-preserved c =
    part-next c.args.found.now c.args.title.now c.args.part.now c.loop-index.new c.put_found.new.new c.loop-index.index c.in-Some.place (arc_value c.in-Some.field-0-1.now)
    (sym c.in-Some.ensures) c.in_ok-put_found.ensures c.loop-index.invariant
