use Rattle.std.proofs.Common.{ap, ◌∙◌}
use Rattle.kind_table.specs.Flattened.{number_in}
use Rattle.level_text.specs.Depth.{depth, is_too_deep}
use Rattle.node_depths.proofs.Capping.{node-deep}
use Rattle.node_depths.proofs.Stepping.{depths_known}
use Rattle.node_depths.proofs.depths.Depths.is_deep_node.Goals as goal

pub returns : goal.returns
returns c = λ flat h.
    let kept = c.args.self.now.nodes.items in
    ap is_too_deep (c.depth_at.ensures.value ∙ ap (λ x. number_in x c.args.node) c.deref.ensures.value)
    ∙ node-deep flat (number_in kept) (depth flat) (depths_known flat kept h) c.args.node
