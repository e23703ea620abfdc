use Rattle.std.specs.Prelude.{string_bytes}
use Rattle.lsp_wire.specs.Written.{note_data}
use Rattle.lsp_wire.proofs.Texts.{IsSoFar}
use Rattle.lsp_wire.proofs.pieces.note_texts.Given as goal

abbrev pub invariant-notes : goal.invariant-notes
invariant-notes l = IsSoFar note_data l.notes l.note-index l.later (string_bytes l.text)
