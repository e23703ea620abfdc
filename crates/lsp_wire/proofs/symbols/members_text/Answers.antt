use Rattle.std.proofs.Common.{◌∙◌}
use Rattle.std.proofs.lemmas.Result.{IfOk-weaker}
use Rattle.std.specs.Prelude.{string_bytes}
use Rattle.lsp_wire.proofs.Texts.{members_from}
use Rattle.lsp_wire.proofs.symbols.members_text.Goals as goal

pub returns : goal.returns
returns c =
    IfOk-weaker c.members_around.result _ _ (λ json h. members_from c.args.name.now c.args.kind c.args.area c.args.name_area (string_bytes json) c.as_str.result.now c.as_str-2.result.now c.as_str-3.result.now (c.as_str.ensures.value ∙ c.in_ok-name.ensures) (c.as_str-2.ensures.value ∙ c.in_ok-area.ensures) (c.as_str-3.ensures.value ∙ c.in_ok-name_area.ensures) h) c.members_around.ensures
