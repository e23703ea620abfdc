use Rattle.std.proofs.Common.{sym}
use Rattle.tla_model.specs.EntityKinds.{stands_for_parameter}
use Rattle.tla_model.proofs.Noting.{noted-next}
use Rattle.tla_model.proofs.stretch.parameter_places.Goals as goal

pub loop-index-preserved : goal.loop-index-preserved
loop-index-preserved c =
    noted-next stands_for_parameter c.args.words.now.entries c.loop-index.places.items c.note.new.places.items c.is_parameter.result c.loop-index.index c.in-Some.field-0-0.now c.in-Some.meaning.now
    c.loop-index.invariant (sym c.in-Some.ensures.entry) c.is_parameter.ensures c.in_ok-note.ensures
