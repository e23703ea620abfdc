use Rattle.name_context.specs.AsTables.{meant_by}
use Rattle.module_leads.specs.Layers.{way_by}
use Rattle.module_leads.proofs.Placed.{named-more}
use Rattle.module_leads.proofs.leads.put_entries.Goals as goal

pub loop-entry-preserved : goal.loop-entry-preserved
loop-entry-preserved c =
    named-more c.args.names.now c.loop-entry.names c.put.new.self (way_by c.args.round.now c.args.here.now) c.args.entries.now c.loop-entry.entry-index c.entry-item.result (meant_by c.named.result) c.in_ok-way.way c.loop-entry.invariant
    c.in_ok-put.ensures c.named.ensures c.in_ok-way.ensures c.loop-entry-test.true c.entry-item.is
