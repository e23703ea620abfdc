use Rattle.std.proofs.Common.{◌≡◌, map, take}
use Rattle.kind_table.specs.Table.{value_at}
use Rattle.kind_table.proofs.argument.values.Given as goal

abbrev pub invariant-loop-n : goal.invariant-loop-n
invariant-loop-n l = l.kinds.items ≡ map (value_at l.arguments.keys) (take l.n-index l.numbers)
