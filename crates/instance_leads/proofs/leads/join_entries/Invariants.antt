use Rattle.std.proofs.Common.{◌≡◌, drop}
use Rattle.instance_leads.specs.Keys.{joined_leads, leads_of}
use Rattle.instance_leads.proofs.leads.join_entries.Given as goal

abbrev pub invariant-loop-index : goal.invariant-loop-index
invariant-loop-index l = joined_leads l.leads (leads_of (drop l.index l.more.entries)) ≡ joined_leads l.initial.leads (leads_of l.more.entries)
