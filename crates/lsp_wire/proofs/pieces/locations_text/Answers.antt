use Rattle.std.proofs.Common.{ap, ◌∙◌}
use Rattle.std.specs.Prelude.{string_bytes}
use Rattle.serde_json.specs.Written.{compact_text}
use Rattle.lsp_wire.specs.Written.{location_data}
use Rattle.lsp_wire.proofs.Texts.{so_far-more}
use Rattle.lsp_wire.proofs.pieces.locations_text.Goals as goal

pub locations-preserved : goal.locations-preserved
locations-preserved c =
    so_far-more location_data c.args.locations.now c.locations.location-index c.location-item.result c.locations.later (string_bytes c.locations.text) (string_bytes c.push_item.new.text) c.as_str.result.now c.locations-test.true (c.as_str.ensures.value ∙ c.in_ok-item.ensures ∙ ap (λ x. compact_text (location_data x)) c.location-item.is) c.in_ok-push_item.ensures c.locations.invariant
