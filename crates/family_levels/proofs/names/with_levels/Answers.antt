use Rattle.family_levels.proofs.Uses.{leveled-more}
use Rattle.family_levels.proofs.names.with_levels.Goals as goal

pub loop-found-preserved : goal.loop-found-preserved
loop-found-preserved c =
    leveled-more c.args.levels.now c.deref_mut-found-items.result.now c.loop-found.found-items c.loop-found.found-index c.found-item.result c.level_at-found.result c.loop-found-test.true c.loop-found.invariant c.level_at-found.ensures
