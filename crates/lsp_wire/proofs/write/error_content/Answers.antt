use Rattle.std.proofs.Common.{ap, ◌∙◌, w32}
use Rattle.std.proofs.lemmas.Int.{to_z-of_z}
use Rattle.std.proofs.lemmas.Result.{IfOk-weaker}
use Rattle.std.specs.Prelude.{string_bytes}
use Rattle.serde_json.specs.Written.{compact_text}
use Rattle.lsp_wire.specs.Written.{error_data}
use Rattle.lsp_wire.proofs.Texts.{error_content_from}
use Rattle.lsp_wire.proofs.write.error_content.Goals as goal

pub returns : goal.returns
returns c =
    let error = c.as_str.ensures.value ∙ c.in_ok-error.ensures ∙ ap (λ z. compact_text (error_data z)) (to_z-of_z w32 c.args.code c.ranges.code) in
    IfOk-weaker c.error_around.result _ _ (λ json h. error_content_from c.args.id.now c.args.code (string_bytes json) c.as_str.result.now c.as_str-2.result.now error (c.as_str-2.ensures.value ∙ c.in_ok-id.ensures) h) c.error_around.ensures
