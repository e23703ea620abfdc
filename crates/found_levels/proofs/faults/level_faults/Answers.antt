use Rattle.found_levels.proofs.Using.{level_faults_more}
use Rattle.found_levels.proofs.faults.level_faults.Goals as goal

pub loop-finding-preserved : goal.loop-finding-preserved
loop-finding-preserved c = level_faults_more c.args.found.now c.loop-finding.finding-index _ c.loop-finding.faults c.put_fault.new.faults c.loop-finding-test.true c.loop-finding.invariant c.in_ok-put_fault.ensures
