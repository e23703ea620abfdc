use Rattle.std.proofs.Common.{ap, ◌∙◌}
use Rattle.std.proofs.lemmas.Result.{IfOk-weaker}
use Rattle.std.specs.Prelude.{string_bytes}
use Rattle.serde_json.specs.Data.{string}
use Rattle.serde_json.specs.Written.{compact_text}
use Rattle.lsp_wire.proofs.Texts.{location_from}
use Rattle.lsp_wire.proofs.pieces.location_text.Goals as goal

pub returns : goal.returns
returns c = IfOk-weaker c.location_around.result _ _ (λ json h. location_from c.args.location.now (string_bytes json) c.as_str-2.result.now c.as_str-3.result.now (c.as_str-2.ensures.value ∙ c.in_ok-area.ensures) (c.as_str-3.ensures.value ∙ c.in_ok-uri.ensures ∙ ap (λ t. compact_text (string t)) c.as_str.ensures) h) c.location_around.ensures
