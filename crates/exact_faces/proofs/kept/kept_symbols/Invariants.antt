use Rattle.std.proofs.Common.{◌≡◌, take}
use Rattle.exact_faces.specs.Kept as behind
use Rattle.exact_faces.proofs.kept.kept_symbols.Given as goal

abbrev pub invariant-loop-op : goal.invariant-loop-op
invariant-loop-op l = l.kept ≡ behind.kept_symbols (take l.op-index l.symbols)
