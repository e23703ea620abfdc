use Rattle.std.proofs.Common.{◌≡◌, length, take}
use Rattle.kind_table.specs.Flattened.{AreFirsts, flat_of}
use Rattle.kind_table.proofs.flat.add_first_nodes.Given as goal

abbrev pub invariant-loop-number : goal.invariant-loop-number
invariant-loop-number l = record {
  long : length l.firsts.items ≡ l.number;
  each : AreFirsts (flat_of l.flat) l.fn.firsts.items → AreFirsts (flat_of l.flat) l.firsts.items;
  kept : take (length l.fn.firsts.items) l.firsts.items ≡ l.fn.firsts.items;
}
