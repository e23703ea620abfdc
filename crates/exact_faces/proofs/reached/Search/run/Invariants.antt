use Rattle.std.proofs.Common.{◌-◌}
use Rattle.module_model.specs.Exports.{face_exports}
use Rattle.module_model.specs.Given.{AreReached}
use Rattle.exact_faces.specs.Found.{told}
use Rattle.exact_faces.specs.Searching.{HasGrown, IsSearch, work}
use Rattle.exact_faces.proofs.Searching.{AreSeen}
use Rattle.exact_faces.proofs.reached.Search.run.Given as goal

abbrev pub invariant-loop-next : goal.invariant-loop-next
invariant-loop-next l = record {
  search : IsSearch l.self;
  grown : HasGrown l.initial.self l.self;
  exports : AreReached (told l.self.found) (face_exports l.self.face.now);
  seen : AreSeen l.next l.self.found;
}

abbrev pub decreases-loop-next : goal.decreases-loop-next
decreases-loop-next l = work l.self.face.now.parts l.self.found - l.next
