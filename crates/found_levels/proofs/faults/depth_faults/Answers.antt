use Rattle.found_levels.proofs.Using.{deep_faults_more}
use Rattle.found_levels.proofs.faults.depth_faults.Goals as goal

pub loop-name-preserved : goal.loop-name-preserved
loop-name-preserved c = deep_faults_more c.args.deep.now c.loop-name.name-index _ c.loop-name.faults c.push.new.self c.loop-name-test.true c.loop-name.invariant c.in_ok-push.ensures.ok
