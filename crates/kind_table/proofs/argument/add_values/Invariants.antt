use Rattle.std.proofs.Common.{take}
use Rattle.kind_table.specs.Table.{AddsOnly, AddsValues, IsValue}
use Rattle.kind_table.proofs.argument.add_values.Given as goal

abbrev pub invariant-loop-kind : goal.invariant-loop-kind
invariant-loop-kind l = record {
  added : AddsValues l.fn.arguments.keys l.arguments.keys l.fn.frame.items l.frame.items (take l.kind-index l.kinds);
  only : AddsOnly IsValue l.fn.arguments.keys l.arguments.keys;
}
