use Rattle.std.proofs.Common.{◌≡◌, length, take}
use Rattle.kind_table.specs.Flattened.{flat_of}
use Rattle.tree_numbers.specs.Numbered.{IsNumbered}
use Rattle.tree_numbers.proofs.numbers.TreeNumbers.extend.Given as goal

abbrev pub invariant-loop-node : goal.invariant-loop-node
invariant-loop-node l = record {
  long : length l.self.nodes.items ≡ l.node;
  numbered : IsNumbered (flat_of l.flat) l.self;
  kept : take (length l.fn.self.nodes.items) l.self.nodes.items ≡ l.fn.self.nodes.items;
}
