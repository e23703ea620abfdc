use Rattle.std.proofs.Common.{◌≡◌, ◌++◌}
use Rattle.tree_tasks.specs.WalkTasks.{chain_back}
use Rattle.tree_tasks.proofs.tasks.append_chain.Given as goal

abbrev pub invariant-loop-node : goal.invariant-loop-node
invariant-loop-node l = l.tasks.items ≡ l.initial.tasks.items ++ chain_back l.yielded
