use Rattle.std.proofs.Common.{◌∙◌}
use Rattle.std.proofs.lemmas.Result.{IfOk-weaker}
use Rattle.std.specs.Prelude.{string_bytes}
use Rattle.lsp_wire.proofs.Texts.{reply_content_from}
use Rattle.lsp_wire.proofs.write.reply_content.Goals as goal

pub returns : goal.returns
returns c =
    IfOk-weaker c.reply_around.result _ _ (λ json h. reply_content_from c.args.id.now c.args.reply.now (string_bytes json) c.as_str.result.now c.as_str-2.result.now (c.as_str.ensures.value ∙ c.in_ok-id.ensures) (c.as_str-2.ensures.value ∙ c.in_ok-answer.ensures) h) c.reply_around.ensures
