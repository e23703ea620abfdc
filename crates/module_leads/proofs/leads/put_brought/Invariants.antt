use Rattle.std.proofs.Common.{◌≤◌, drop, length}
use Rattle.tree_names.specs.Parameters.{entries_in}
use Rattle.module_leads.specs.Layers.{IsBrought}
use Rattle.module_leads.proofs.leads.put_brought.Given as goal

abbrev pub invariant-loop-index : goal.invariant-loop-index
invariant-loop-index l = record {
  within : l.index ≤ length l.entries;
  brought : IsBrought l.fn.layer l.layer (entries_in (drop l.index l.entries)) l.instance l.face;
}

abbrev pub decreases-loop-index : goal.decreases-loop-index
decreases-loop-index l = l.index
