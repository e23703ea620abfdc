use Rattle.std.proofs.Common.{ℕ}
use Rattle.std.specs.Prelude.{slice_get}
use Rattle.kind_table.specs.Flattened.{flat_of, number_in}
use Rattle.level_text.specs.Depth as text
use Rattle.node_depths.proofs.Greatest.{most_more, replaced-push}
use Rattle.node_depths.proofs.forms.replaced_on.Goals as goal

pub loop-instance-preserved : goal.loop-instance-preserved
loop-instance-preserved c =
    let f = number_in c.args.depths.now in let m = flat_of c.args.flat.now in
    most_more (text.replaced_on m f) (λ (j : ℕ). text.replaced_depth f (slice_get m.instances j)) (replaced-push m f) c.args.path.now c.loop-instance.instance-index 0 c.loop-instance.most c.replaced_depth.result c.max-most.result c.loop-instance-test.true c.loop-instance.invariant c.replaced_depth.ensures.value c.replaced_depth.ensures.small c.max-most.ensures
