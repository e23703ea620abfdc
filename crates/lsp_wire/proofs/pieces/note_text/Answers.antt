use Rattle.std.proofs.Common.{ap, ◌∙◌}
use Rattle.std.proofs.lemmas.Result.{IfOk-weaker}
use Rattle.std.specs.Prelude.{string_bytes}
use Rattle.serde_json.specs.Data.{string}
use Rattle.serde_json.specs.Written.{compact_text}
use Rattle.lsp_wire.proofs.Texts.{note_from}
use Rattle.lsp_wire.proofs.pieces.note_text.Goals as goal

pub returns : goal.returns
returns c = IfOk-weaker c.note_around.result _ _ (λ json h. note_from c.args.note.now (string_bytes json) c.as_str.result.now c.as_str-2.result.now c.as_str-3.result.now (c.as_str.ensures.value ∙ c.in_ok-code.ensures) (c.as_str-2.ensures.value ∙ c.in_ok-message.ensures ∙ ap (λ t. compact_text (string t)) c.note_text.ensures) (c.as_str-3.ensures.value ∙ c.in_ok-area.ensures) h) c.note_around.ensures
