use Rattle.std.proofs.Common.{◌≡◌, ◌≤◌, ◌++◌, drop, length, reverse}
use Rattle.std.specs.Prelude.{filter}
use Rattle.tree_tasks.specs.WalkTasks.{is_chosen, visits}
use Rattle.tree_tasks.proofs.tasks.append_chosen.Given as goal

abbrev pub invariant-loop-index : goal.invariant-loop-index
invariant-loop-index l = record {
  within : l.index ≤ length l.nodes;
  tasks : l.tasks.items ≡ l.initial.tasks.items ++ visits (reverse (filter (is_chosen l.tree l.sets) (drop l.index l.nodes)));
}

abbrev pub decreases-loop-index : goal.decreases-loop-index
decreases-loop-index l = l.index
