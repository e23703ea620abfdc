use Rattle.std.proofs.Common.{take}
use Rattle.tree_names.specs.Parameters.{entries_in}
use Rattle.module_leads.specs.Faces.{HasWays}
use Rattle.module_leads.specs.Layers.{way_by}
use Rattle.module_leads.proofs.leads.put_entries.Given as goal

abbrev pub invariant-loop-entry : goal.invariant-loop-entry
invariant-loop-entry l = HasWays l.fn.names l.names (way_by l.round l.here) (entries_in (take l.entry-index l.entries))
