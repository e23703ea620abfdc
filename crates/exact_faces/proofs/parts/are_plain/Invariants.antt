use Rattle.std.proofs.Common.{take}
use Rattle.exact_faces.proofs.Parting.{ArePlain}
use Rattle.exact_faces.proofs.parts.are_plain.Given as goal

abbrev pub invariant-loop-index : goal.invariant-loop-index
invariant-loop-index l = ArePlain l.found l.title (take l.index l.part)
