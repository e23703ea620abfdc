use Rattle.std.proofs.Common.{take}
use Rattle.exact_faces.proofs.Parting.{IsPut}
use Rattle.exact_faces.proofs.parts.kept_parts.Given as goal

abbrev pub invariant-loop-index : goal.invariant-loop-index
invariant-loop-index l = IsPut l.found (take l.index l.parts) l.new
