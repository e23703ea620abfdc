use Rattle.std.proofs.Common.{sym}
use Rattle.instance_leads.proofs.Noting.{join-next}
use Rattle.instance_leads.proofs.leads.join_entries.Goals as goal

pub loop-index-preserved : goal.loop-index-preserved
loop-index-preserved c =
    join-next c.args.leads.now c.loop-index.leads c.put.new.self c.args.more.now.entries c.loop-index.index c.in-Some.key.now c.in-Some.held.now (sym c.in-Some.ensures.entry) c.loop-index.invariant c.in_ok-put.ensures
