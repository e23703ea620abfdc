use Rattle.std.proofs.Common.{◌∙◌}
use Rattle.std.proofs.lemmas.Result.{IfOk-weaker}
use Rattle.std.specs.Prelude.{string_bytes}
use Rattle.lsp_wire.proofs.Texts.{notes_content_from}
use Rattle.lsp_wire.proofs.write.notes_content.Goals as goal

pub returns : goal.returns
returns c =
    IfOk-weaker c.notice_around.result _ _ (λ json h. notes_content_from c.args.uri.now c.args.notes.now (string_bytes json) c.as_str.result.now (c.as_str.ensures.value ∙ c.in_ok-params.ensures) h) c.notice_around.ensures
