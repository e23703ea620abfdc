use Rattle.std.proofs.Common.{◌≡◌, length, take}
use Rattle.kind_table.specs.Flattened.{flat_of}
use Rattle.node_depths.specs.Capped.{AreDepths}
use Rattle.node_depths.proofs.depths.add_depths.Given as goal

abbrev pub invariant-loop-number : goal.invariant-loop-number
invariant-loop-number l = record {
  long : length l.depths.items ≡ l.number;
  each : AreDepths (flat_of l.flat) l.fn.depths.items → AreDepths (flat_of l.flat) l.depths.items;
  kept : take (length l.fn.depths.items) l.depths.items ≡ l.fn.depths.items;
}
