use Rattle.family_levels.proofs.Needs.{AreFirstNeeded}
use Rattle.family_levels.proofs.versions.ids_needed.Given as goal

abbrev pub invariant-loop-index : goal.invariant-loop-index
invariant-loop-index l = AreFirstNeeded l.versions l.index l.ids.keys
