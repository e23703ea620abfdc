use Rattle.std.proofs.Common.{◌∙◌}
use Rattle.std.specs.Prelude.{string_bytes}
use Rattle.lsp_wire.specs.Written.{note_data}
use Rattle.lsp_wire.proofs.Texts.{so_far-more}
use Rattle.lsp_wire.proofs.pieces.note_texts.Goals as goal

pub notes-preserved : goal.notes-preserved
notes-preserved c =
    so_far-more note_data c.args.notes.now c.notes.note-index _ c.notes.later (string_bytes c.notes.text) (string_bytes c.push_item.new.text) c.as_str.result.now c.notes-test.true (c.as_str.ensures.value ∙ c.in_ok-item.ensures) c.in_ok-push_item.ensures c.notes.invariant
