use Rattle.std.proofs.Common.{◌≡◌, ◌++◌}
use Rattle.declared_names.specs.Collecting.{names_of}
use Rattle.declared_names.proofs.declared.push_nodes.Given as goal

abbrev pub invariant-loop-node : goal.invariant-loop-node
invariant-loop-node l = l.todo.items ≡ l.initial.todo.items ++ names_of l.binding l.yielded
