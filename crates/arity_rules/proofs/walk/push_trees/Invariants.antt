use Rattle.std.proofs.Common.{◌≡◌, ◌++◌, [], false}
use Rattle.std.specs.Prelude.{map}
use Rattle.tla_tree.specs.Arena.{tree_at}
use Rattle.tla_tree.specs.Syntax.{trees}
use Rattle.arity_rules.specs.declared.place.Role.TheVariants.{Other}
use Rattle.arity_rules.specs.Arities.{part_faults}
use Rattle.arity_rules.specs.Noted.{told}
use Rattle.arity_rules.specs.Tasks.{AreDue, all_faults, all_size, stack}
use Rattle.arity_rules.proofs.walk.push_trees.Given as goal

abbrev pub invariant-loop-next : goal.invariant-loop-next
invariant-loop-next l = record {
  due : AreDue l.tree (stack l.tasks.items);
  faults : l.faults ++ all_faults (told l.meanings) l.tree (stack l.tasks.items) ≡ l.initial.faults ++ part_faults (told l.meanings) Other false 0 (trees (map (tree_at l.tree) l.nodes));
  none : l.opened.items ≡ [];
}

abbrev pub decreases-loop-next : goal.decreases-loop-next
decreases-loop-next l = all_size l.tree (stack l.tasks.items)
