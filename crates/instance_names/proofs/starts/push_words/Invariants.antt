use Rattle.std.proofs.Common.{◌≡◌, ◌++◌}
use Rattle.tla_tree.specs.Syntax.{trees}
use Rattle.unit_grammar.specs.UnitNodes.{unit_at}
use Rattle.module_model.specs.Instances.{unit_trees}
use Rattle.instance_names.specs.Forms.{word_at}
use Rattle.instance_names.specs.Collected.{AreDue, all_collected, due_size, due_trees}
use Rattle.instance_names.proofs.starts.push_words.Given as goal

abbrev pub invariant-loop-todo : goal.invariant-loop-todo
invariant-loop-todo l =
    AreDue l.tree l.todo.items × (l.starts.items ++ all_collected word_at (trees (due_trees l.tree l.todo.items)) ≡ l.initial.starts.items ++ all_collected word_at (unit_trees (unit_at l.tree l.unit)))

abbrev pub decreases-loop-todo : goal.decreases-loop-todo
decreases-loop-todo l = due_size l.tree l.todo.items
