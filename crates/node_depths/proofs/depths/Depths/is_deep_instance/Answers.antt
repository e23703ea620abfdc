use Rattle.std.proofs.Common.{ap, ◌∙◌}
use Rattle.std.specs.Prelude.{slice_get}
use Rattle.kind_table.specs.Flattened.{flat_of, number_in}
use Rattle.level_text.specs.Depth.{depth, instance_depth as depth_over, is_too_deep}
use Rattle.node_depths.proofs.Capping.{instance-deep}
use Rattle.node_depths.proofs.Stepping.{depths_known}
use Rattle.node_depths.proofs.depths.Depths.is_deep_instance.Goals as goal

pub returns : goal.returns
returns c =
    let m = flat_of c.args.flat.now in let o = slice_get m.instances c.args.instance in let kept = c.args.self.now.nodes.items in
    ap is_too_deep (c.instance_depth.ensures.value ∙ ap (λ x. depth_over (number_in x) o) c.deref.ensures.value)
    ∙ instance-deep m (number_in kept) (depth m) (depths_known m kept c.requires) o
