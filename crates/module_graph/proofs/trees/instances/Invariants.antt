use Rattle.std.proofs.Common.{◌≡◌, ◌++◌}
use Rattle.tla_tree.specs.Arena.{tree_at}
use Rattle.tla_model.specs.ModuleNames.{instances}
use Rattle.module_graph.proofs.TreeWalk.{AreDue, due_names, due_size}
use Rattle.module_graph.proofs.trees.instances.Given as goal

abbrev pub invariant-loop-node : goal.invariant-loop-node
invariant-loop-node l = record {
  due : AreDue l.tree l.todo.items;
  names : l.names ++ due_names l.tree l.todo.items ≡ instances (tree_at l.tree l.root);
}

abbrev pub decreases-loop-node : goal.decreases-loop-node
decreases-loop-node l = due_size l.tree l.todo.items
