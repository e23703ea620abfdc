use Rattle.std.proofs.Common.{[]}
use Rattle.index_graph.specs.SearchState.{AreWalk, KeepsFound, work}
use Rattle.index_graph.proofs.components.Walk.run.Given as goal

abbrev pub invariant-loop-top : goal.invariant-loop-top
invariant-loop-top l = record {
  walk : AreWalk l.edges [] l.self;
  keeps : KeepsFound l.fn.self.marks.items l.self.marks.items;
}

abbrev pub decreases-loop-top : goal.decreases-loop-top
decreases-loop-top l = work l.edges l.self
