use Rattle.std.proofs.Common.{subst}
use Rattle.module_leads.specs.Layers.{IsPut}
use Rattle.module_leads.proofs.Placed.{put-more}
use Rattle.module_leads.proofs.leads.put_all.Goals as goal

pub loop-meaning-preserved : goal.loop-meaning-preserved
loop-meaning-preserved c =
    put-more c.args.layer.now c.loop-meaning.layer c.put.new.self c.args.meanings.now c.loop-meaning.meaning-index c.meaning-item.result c.args.way.now c.loop-meaning.invariant
    (subst (IsPut c.loop-meaning.layer c.put.new.self c.meaning-item.result) c.in_ok-copied.ensures c.in_ok-put.ensures) c.loop-meaning-test.true c.meaning-item.is
