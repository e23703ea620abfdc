use Rattle.std.proofs.lemmas.Result.{IfOk-weaker}
use Rattle.std.specs.Prelude.{string_bytes}
use Rattle.lsp_wire.proofs.Texts.{area_from}
use Rattle.lsp_wire.proofs.pieces.area_text.Goals as goal

pub returns : goal.returns
returns c = IfOk-weaker c.area_around.result _ _ (λ json h. area_from c.args.area (string_bytes json) h) c.area_around.ensures
