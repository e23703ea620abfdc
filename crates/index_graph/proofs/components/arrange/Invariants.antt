use Rattle.std.proofs.Common.{◌≡◌, ◌<◌, ℕ, Some, [], length}
use Rattle.std.specs.Prelude.{slice_get}
use Rattle.index_graph.specs.declared.components.Mark.{Mark}
use Rattle.index_graph.specs.SearchState.{AreWalk}
use Rattle.index_graph.proofs.components.arrange.Given as goal

abbrev pub invariant-loop-index : goal.invariant-loop-index
invariant-loop-index l = record {
  walk : AreWalk l.edges [] l.walk;
  none : length l.walk.groups.items ≡ 0;
  found : (index : ℕ) → index < l.index → slice_get l.walk.marks.items index ≡ Some Mark.New → ⊥;
}
