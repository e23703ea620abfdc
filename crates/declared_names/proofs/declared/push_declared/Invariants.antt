use Rattle.std.proofs.Common.{◌≡◌, ◌++◌}
use Rattle.std.specs.Prelude.{map}
use Rattle.tla_tree.specs.Arena.{tree_at}
use Rattle.tla_tree.specs.Syntax.{trees}
use Rattle.tla_model.specs.Entities.{declared_among}
use Rattle.declared_names.specs.Collecting.{AreDue, all_due, all_size, stack}
use Rattle.declared_names.proofs.declared.push_declared.Given as goal

abbrev pub invariant-loop-next : goal.invariant-loop-next
invariant-loop-next l = record {
  due : AreDue l.tree (stack l.todo.items);
  names : l.names ++ all_due l.tree (stack l.todo.items) ≡ l.initial.names ++ declared_among l.fn.binding (trees (map (tree_at l.tree) l.nodes));
}

abbrev pub decreases-loop-next : goal.decreases-loop-next
decreases-loop-next l = all_size l.tree (stack l.todo.items)
