use Rattle.std.proofs.Common.{sym}
use Rattle.module_model.proofs.PartTables.{there-next}
use Rattle.module_model.proofs.parts.Part.has_all.Goals as goal

pub loop-index-preserved : goal.loop-index-preserved
loop-index-preserved c =
    there-next c.other.inside.instances.entries c.loop-index.index c.in-Some.place.now c.in-Some.field-0-1.now c.args.self.now c.args.other.now
    (sym c.in-Some.ensures.entry) (sym c.if-not-has.ensures) c.loop-index.invariant
