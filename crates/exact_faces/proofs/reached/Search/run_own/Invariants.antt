use Rattle.std.proofs.Common.{◌-◌, ◌≡◌}
use Rattle.exact_faces.specs.Searching.{HasGrown, IsSearch, work}
use Rattle.exact_faces.proofs.reached.Search.run_own.Given as goal

abbrev pub invariant-loop-next : goal.invariant-loop-next
invariant-loop-next l = record {
  search : IsSearch l.self;
  grown : HasGrown l.initial.self l.self;
}

abbrev pub decreases-loop-next : goal.decreases-loop-next
decreases-loop-next l = work l.self.face.now.parts l.self.found - l.next
