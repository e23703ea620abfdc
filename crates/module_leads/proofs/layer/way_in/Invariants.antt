use Rattle.std.proofs.Common.{◌≡◌, ◌≤◌, length}
use Rattle.module_leads.specs.Layers.{first_ways}
use Rattle.module_leads.proofs.layer.way_in.Given as goal

abbrev pub invariant-loop-index : goal.invariant-loop-index
invariant-loop-index l = record {
  within : l.index ≤ length l.layers;
  known : first_ways l.layers l.index l.sought ≡ first_ways l.layers (length l.layers) l.sought;
}

abbrev pub decreases-loop-index : goal.decreases-loop-index
decreases-loop-index l = l.index
