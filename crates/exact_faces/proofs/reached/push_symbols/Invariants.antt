use Rattle.std.proofs.Common.{◌≡◌, ◌++◌, take}
use Rattle.exact_faces.specs.Searching.{of_symbols, shown}
use Rattle.exact_faces.proofs.reached.push_symbols.Given as goal

abbrev pub invariant-loop-index : goal.invariant-loop-index
invariant-loop-index l = shown l.found.items ≡ shown l.initial.found.items ++ of_symbols (take l.index l.symbols)
