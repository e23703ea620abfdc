use Rattle.std.proofs.Common.{◌≡◌, ◌++◌}
use Rattle.tree_tasks.specs.WalkTasks.{visits}
use Rattle.tree_tasks.proofs.tasks.append_visits.Given as goal

abbrev pub invariant-loop-node : goal.invariant-loop-node
invariant-loop-node l = l.tasks.items ≡ l.initial.tasks.items ++ visits l.yielded
