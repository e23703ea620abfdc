use Rattle.std.proofs.Common.{◌∙◌, sym}
use Rattle.tla_model.proofs.Meanings.{noted}
use Rattle.tla_model.proofs.stretch.note_meaning.Goals as goal

pub returns : goal.returns
returns c =
    noted c.args.places.now c.insert.new.self c.in_ok-key.key c.args.meaning.now c.args.place (sym c.stands_behind.ensures ∙ c.if-not-stands_behind.false) c.in_ok-key.ensures c.in_ok-insert.ensures.updates
