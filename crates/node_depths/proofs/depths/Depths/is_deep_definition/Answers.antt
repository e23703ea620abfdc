use Rattle.std.proofs.Common.{ap, ◌∙◌}
use Rattle.std.specs.Prelude.{slice_get}
use Rattle.kind_table.specs.Flattened.{flat_of, number_in}
use Rattle.level_text.specs.Depth.{depth, depth_of as depth_over, is_too_deep}
use Rattle.node_depths.proofs.Capping.{definition-deep}
use Rattle.node_depths.proofs.Stepping.{depths_known}
use Rattle.node_depths.proofs.depths.Depths.is_deep_definition.Goals as goal

pub returns : goal.returns
returns c =
    let m = flat_of c.args.flat.now in let o = slice_get m.definitions c.args.definition in let kept = c.args.self.now.nodes.items in
    ap is_too_deep (c.definition_depth.ensures.value ∙ ap (λ x. depth_over (number_in x) o) c.deref.ensures.value)
    ∙ definition-deep m (number_in kept) (depth m) (depths_known m kept c.requires) o
