use Rattle.std.proofs.Common.{◌≡◌, Some, replicate}
use Rattle.tla_symbols.specs.declared.level.Kind.TheVariants.{Const}
use Rattle.kind_table.proofs.numbers.constants.Given as goal

abbrev pub invariant-loop-i : goal.invariant-loop-i
invariant-loop-i l = l.kinds.items ≡ replicate l._i (Some Const)
