use Rattle.std.proofs.Common.{sym}
use Rattle.tla_model.specs.EntityKinds.{is_instance}
use Rattle.tla_model.proofs.Noting.{noted-next}
use Rattle.tla_model.proofs.stretch.instance_places.Goals as goal

pub loop-index-preserved : goal.loop-index-preserved
loop-index-preserved c =
    noted-next is_instance c.args.words.now.entries c.loop-index.places.items c.note.new.places.items c.is_instance.result c.loop-index.index c.in-Some.field-0-0.now c.in-Some.meaning.now
    c.loop-index.invariant (sym c.in-Some.ensures.entry) c.is_instance.ensures c.in_ok-note.ensures
