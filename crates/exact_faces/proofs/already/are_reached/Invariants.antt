use Rattle.exact_faces.specs.Found.{told}
use Rattle.exact_faces.proofs.Exactly.{AreFirstReached}
use Rattle.exact_faces.proofs.already.are_reached.Given as goal

abbrev pub invariant-loop-index : goal.invariant-loop-index
invariant-loop-index l = AreFirstReached (told l.found) l.imports l.names l.index
