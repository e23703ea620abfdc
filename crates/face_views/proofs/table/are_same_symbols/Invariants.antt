use Rattle.face_views.proofs.Comparing.{AreSameBefore}
use Rattle.face_views.proofs.table.are_same_symbols.Given as goal

abbrev pub invariant-loop-index : goal.invariant-loop-index
invariant-loop-index l = AreSameBefore l.index l.one l.other
