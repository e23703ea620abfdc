use Rattle.std.proofs.Common.{◌≡◌, drop}
use Rattle.lsp_answers.specs.States.{same_notes}
use Rattle.server_documents.proofs.notices.same_notes.Given as goal

abbrev pub invariant-loop-note : goal.invariant-loop-note
invariant-loop-note l = same_notes (drop l.note-index l.a) l.rest ≡ same_notes l.a l.b
