use Rattle.std.proofs.Common.{take}
use Rattle.exact_faces.specs.Kept.{IsKeptPart}
use Rattle.exact_faces.proofs.parts.kept_part.Given as goal

abbrev pub invariant-loop-index : goal.invariant-loop-index
invariant-loop-index l = IsKeptPart l.found l.title (take l.index l.part) l.new
