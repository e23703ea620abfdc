use Rattle.exact_faces.specs.Searching.{IsFound, shown}
use Rattle.exact_faces.proofs.Searching.{OfFirst}
use Rattle.exact_faces.proofs.reached.are_found.Given as goal

abbrev pub invariant-loop-index : goal.invariant-loop-index
invariant-loop-index l = OfFirst (IsFound l.found) (shown l.meanings) l.index
