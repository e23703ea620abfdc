use Rattle.std.proofs.Common.{◌≡◌, ◌++◌}
use Rattle.tree_tasks.proofs.tasks.append_tasks.Given as goal

abbrev pub invariant-loop-task : goal.invariant-loop-task
invariant-loop-task l = l.tasks.items ≡ l.initial.tasks.items ++ l.yielded
