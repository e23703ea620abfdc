use Rattle.std.proofs.Common.{◌≡◌, ◌++◌}
use Rattle.std.specs.Prelude.{map}
use Rattle.tla_tree.specs.Syntax.{trees}
use Rattle.unit_grammar.specs.UnitNodes.{unit_at}
use Rattle.module_model.specs.Instances.{named_instance, unit_trees}
use Rattle.instance_names.specs.Named.{named_as}
use Rattle.instance_names.specs.Collected.{AreDue, all_collected, due_size, due_trees}
use Rattle.instance_names.proofs.named.named_instances.Given as goal

abbrev pub invariant-loop-todo : goal.invariant-loop-todo
invariant-loop-todo l =
    AreDue l.tree l.todo.items × (map named_as l.found ++ all_collected named_instance (trees (due_trees l.tree l.todo.items)) ≡ all_collected named_instance (unit_trees (unit_at l.tree l.unit)))

abbrev pub decreases-loop-todo : goal.decreases-loop-todo
decreases-loop-todo l = due_size l.tree l.todo.items
