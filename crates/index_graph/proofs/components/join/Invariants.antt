use Rattle.std.proofs.Common.{◌≡◌, ◌<◌, ℕ, Some, length}
use Rattle.std.specs.Prelude.{slice_get}
use Rattle.index_graph.specs.declared.components.Group.{Group}
use Rattle.index_graph.proofs.components.join.Given as goal

abbrev pub invariant-loop-top : goal.invariant-loop-top
invariant-loop-top l = record {
  within : l.top < length l.groups.items;
  above : (s : ℕ) (other : Group) → l.top < s → slice_get l.groups.items s ≡ Some other → l.index < other.first;
}

abbrev pub decreases-loop-top : goal.decreases-loop-top
decreases-loop-top l = l.top
