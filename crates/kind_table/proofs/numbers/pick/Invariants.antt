use Rattle.std.proofs.Common.{◌≡◌, map, take}
use Rattle.kind_table.specs.Table.{picked}
use Rattle.kind_table.proofs.numbers.pick.Given as goal

abbrev pub invariant-loop-node : goal.invariant-loop-node
invariant-loop-node l = l.numbers.items ≡ map (picked l.start l.found) (take l.node-index l.nodes)
