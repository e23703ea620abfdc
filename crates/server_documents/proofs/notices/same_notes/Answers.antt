use Rattle.std.proofs.Common.{drop, arith, ◌∙◌}
use Rattle.std.proofs.lemmas.List.{length-drop}
use Rattle.server_documents.proofs.Sending.{notes-short}
use Rattle.server_documents.proofs.notices.same_notes.Goals as goal

pub returns-in_default : goal.returns-in_default
returns-in_default c =
    notes-short (drop c.loop-note.note-index c.args.a.now) c.loop-note.rest.now
    (omega (arith, length-drop c.loop-note.note-index c.args.a.now, c.loop-note-test.true)) c.in_default.ensures.cases
    ∙ c.loop-note.invariant
