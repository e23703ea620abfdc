use Rattle.std.proofs.Common.{take}
use Rattle.exact_faces.proofs.Parting.{AreThere}
use Rattle.exact_faces.proofs.parts.are_found.Given as goal

abbrev pub invariant-loop-index : goal.invariant-loop-index
invariant-loop-index l = AreThere l.found l.title (take l.index l.part)
