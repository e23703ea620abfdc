use Rattle.std.proofs.Common.{◌∙◌}
use Rattle.std.proofs.lemmas.Result.{IfOk-weaker}
use Rattle.std.specs.Prelude.{string_bytes}
use Rattle.lsp_wire.proofs.Texts.{notes_from}
use Rattle.lsp_wire.proofs.pieces.notes_text.Goals as goal

pub returns : goal.returns
returns c = IfOk-weaker c.notes_around.result _ _ (λ json h. notes_from c.args.uri.now c.args.notes.now (string_bytes json) c.as_str.result.now c.as_str-2.result.now (c.as_str.ensures.value ∙ c.in_ok-items.ensures) (c.as_str-2.ensures.value ∙ c.in_ok-uri.ensures) h) c.notes_around.ensures
