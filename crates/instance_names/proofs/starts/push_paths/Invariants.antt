use Rattle.std.proofs.Common.{◌≡◌, ◌++◌}
use Rattle.tla_tree.specs.Syntax.{trees}
use Rattle.unit_grammar.specs.UnitNodes.{unit_at}
use Rattle.module_model.specs.Instances.{path_start, unit_trees}
use Rattle.instance_names.specs.Collected.{AreDue, all_collected, due_size, due_trees}
use Rattle.instance_names.proofs.starts.push_paths.Given as goal

abbrev pub invariant-loop-todo : goal.invariant-loop-todo
invariant-loop-todo l =
    AreDue l.tree l.todo.items × (l.starts.items ++ all_collected path_start (trees (due_trees l.tree l.todo.items)) ≡ l.initial.starts.items ++ all_collected path_start (unit_trees (unit_at l.tree l.unit)))

abbrev pub decreases-loop-todo : goal.decreases-loop-todo
decreases-loop-todo l = due_size l.tree l.todo.items
