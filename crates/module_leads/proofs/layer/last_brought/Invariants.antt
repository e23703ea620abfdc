use Rattle.std.proofs.Common.{◌≡◌, ◌≤◌, length, take}
use Rattle.module_leads.specs.Layers.{last_brought}
use Rattle.module_leads.proofs.layer.last_brought.Given as goal

abbrev pub invariant-loop-index : goal.invariant-loop-index
invariant-loop-index l = record {
  within : l.index ≤ length l.brought;
  known : last_brought (take l.index l.brought) l.meaning ≡ last_brought l.brought l.meaning;
}

abbrev pub decreases-loop-index : goal.decreases-loop-index
decreases-loop-index l = l.index
