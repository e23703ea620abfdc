use Rattle.std.proofs.Common.{◌≡◌, map, take}
use Rattle.tree_numbers.specs.Keys.{number_in}
use Rattle.tree_numbers.proofs.keys.numbers_of.Given as goal

abbrev pub invariant-loop-node : goal.invariant-loop-node
invariant-loop-node l = l.found.items ≡ map (number_in l.numbers) (take l.node-index l.nodes)
