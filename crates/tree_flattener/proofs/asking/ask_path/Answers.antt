use Rattle.std.proofs.Common.{refl}
use Rattle.tree_flattener.proofs.Walking.{path-onward}
use Rattle.tree_flattener.proofs.asking.ask_path.Goals as goal

pub loop-i-preserved : goal.loop-i-preserved
loop-i-preserved c =
    path-onward c.args.frame c.args.tree.now c.args.segments.now c.loop-i.i 0 c.loop-i-test.true c.requires c.form.result c.segment_of.result _ c.loop-i.asked.items c.ask_segment.new.asked.items c.args.asked.now.items c.form.ensures c.segment_of.ensures refl c.in_ok-ask_segment.ensures c.loop-i.invariant
