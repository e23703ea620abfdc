use Rattle.std.proofs.Common.{◌∙◌}
use Rattle.unit_grammar.specs.UnitNodes.{module_of}
use Rattle.fact_lines.proofs.Standing.{declaring-begin}
use Rattle.fact_lines.proofs.places.places_of_tree.Goals as goal

pub places_from-requires : goal.places_from-requires
places_from-requires c =
    let tree = c.args.tree.now in
    declaring-begin tree.source c.in_ok-text.text (module_of tree) c.as_slice.result.now c.requires.2.readable.lie (c.in_ok-text.ensures ∙ (c.as_bytes.ensures.value ∙ c.as_str.ensures)) (c.as_slice.ensures ∙ c.in_ok-binders.ensures)
