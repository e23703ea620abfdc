use Rattle.std.proofs.Common.{take}
use Rattle.exact_faces.proofs.Parting.{AreAllPlain}
use Rattle.exact_faces.proofs.parts.are_all_plain.Given as goal

abbrev pub invariant-loop-index : goal.invariant-loop-index
invariant-loop-index l = AreAllPlain l.found (take l.index l.parts)
