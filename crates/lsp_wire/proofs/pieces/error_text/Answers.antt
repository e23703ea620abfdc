use Rattle.std.proofs.Common.{◌++◌, ap, ◌∙◌, w32}
use Rattle.std.proofs.lemmas.Int.{to_z-of_z}
use Rattle.std.proofs.lemmas.Result.{IfOk-weaker}
use Rattle.std.specs.Prelude.{codes, string_bytes}
use Rattle.std.specs.Fmt.{signed_decimal}
use Rattle.serde_json.specs.Data.{string}
use Rattle.serde_json.specs.Written.{compact_text}
use Rattle.lsp_wire.specs.Errors.{error_text}
use Rattle.lsp_wire.proofs.Texts.{error_from}
use Rattle.lsp_wire.proofs.pieces.error_text.Goals as goal

pub returns : goal.returns
returns c =
    let same = to_z-of_z w32 c.args.code c.ranges.code in
    let message = c.as_str.ensures.value ∙ c.in_ok-message.ensures ∙ ap (λ t. compact_text (string t)) (c.error_text.ensures ∙ ap error_text same) in
    IfOk-weaker c.error_around.result _ _ (λ json h. error_from c.args.code (string_bytes json) c.as_str.result.now message (h ∙ ap (λ z. codes "{\"code\":" ++ (signed_decimal z ++ (codes ",\"message\":" ++ (c.as_str.result.now ++ codes "}")))) same)) c.error_around.ensures
