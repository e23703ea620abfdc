use Rattle.std.proofs.Common.{◌≡◌, ◌++◌, drop}
use Rattle.tla_model.proofs.table.copied_symbols.Given as goal

abbrev pub invariant-loop-op : goal.invariant-loop-op
invariant-loop-op l = l.copies ++ drop l.op-index l.symbols ≡ l.symbols
