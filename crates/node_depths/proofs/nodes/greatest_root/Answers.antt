use Rattle.std.proofs.Common.{None, List, map}
use Rattle.kind_table.specs.declared.flat.Replacement.{Replacement}
use Rattle.kind_table.specs.Flattened.{number_in}
use Rattle.level_text.specs.Depth as text
use Rattle.node_depths.proofs.Greatest.{greatest_root-push, most_more}
use Rattle.node_depths.proofs.nodes.greatest_root.Goals as goal

pub loop-replacement-preserved : goal.loop-replacement-preserved
loop-replacement-preserved c =
    let f = number_in c.args.depths.now in
    most_more (λ (rs : List Replacement). text.greatest f (map (λ (r : Replacement). r.root) rs)) (λ (r : Replacement). f r.root) (greatest_root-push f) c.args.replacements.now c.loop-replacement.replacement-index (record { root = 0; most = None }) c.loop-replacement.most c.depth_at.result c.max-most.result c.loop-replacement-test.true c.loop-replacement.invariant c.depth_at.ensures.value c.depth_at.ensures.small c.max-most.ensures
