use Rattle.face_views.proofs.Comparing.{AreSameBefore}
use Rattle.module_leads.specs.Alike.{module_at, names_at}
use Rattle.module_leads.proofs.alike.are_same_names.Given as goal

abbrev pub invariant-loop-index : goal.invariant-loop-index
invariant-loop-index l = AreSameBefore l.index (names_at l.sort (module_at l.faces l.one)) (names_at l.sort (module_at l.faces l.other))
