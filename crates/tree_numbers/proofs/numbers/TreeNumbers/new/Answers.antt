use Rattle.std.proofs.Common.{subst, sym}
use Rattle.tree_numbers.specs.Numbered.{AreKeys}
use Rattle.tree_numbers.proofs.Sharing.{no-first-nodes, no-keys, no-numbers}
use Rattle.tree_numbers.proofs.numbers.TreeNumbers.new.Goals as goal

pub returns : goal.returns
returns c = λ flat. record {
  nodes = no-numbers flat c.new.result.items c.new.ensures.items;
  firsts = no-first-nodes c.new-2.result.entries c.new.result.items c.new.ensures.items;
  keys = subst (AreKeys flat c.new.result.items c.new-3.result.known.entries) (sym c.new-2.ensures.empty) (no-keys flat c.new.result.items c.new-3.result.known.entries);
  instances = c.new-3.ensures flat c.new.result.items;
}
