use Rattle.tree_names.specs.Parameters.{entries_in}
use Rattle.face_views.proofs.Comparing.{AreSameBefore}
use Rattle.module_leads.proofs.same.are_same_parameters.Given as goal

abbrev pub invariant-loop-index : goal.invariant-loop-index
invariant-loop-index l = AreSameBefore l.index (entries_in l.one) (entries_in l.other)
