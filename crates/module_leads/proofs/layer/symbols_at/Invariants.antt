use Rattle.std.proofs.Common.{◌≡◌, ◌+◌, ◌≤◌, drop, length}
use Rattle.tla_model.specs.Entities.{Meaning}
use Rattle.module_leads.specs.Layers.{symbol_among, symbol_end}
use Rattle.module_leads.proofs.layer.symbols_at.Given as goal

abbrev pub invariant-loop-index : goal.invariant-loop-index
invariant-loop-index l = record {
  within : l.index ≤ length l.own;
  known : (other : Meaning) → symbol_end l.symbols other ≡ symbol_among (drop l.index l.own) (l.place + l.index) other;
}

abbrev pub decreases-loop-index : goal.decreases-loop-index
decreases-loop-index l = l.index
