use Rattle.std.proofs.Common.{◌≡◌, ◌++◌}
use Rattle.instance_names.proofs.walk.push_reversed.Given as goal

abbrev pub invariant-loop-number : goal.invariant-loop-number
invariant-loop-number l = l.todo.items ≡ l.initial.todo.items ++ l.yielded
