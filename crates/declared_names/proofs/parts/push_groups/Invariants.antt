use Rattle.std.proofs.Common.{◌≡◌, ◌++◌, drop}
use Rattle.std.specs.Prelude.{map}
use Rattle.tla_tree.specs.Arena.{tree_at}
use Rattle.tla_tree.specs.Syntax.{trees}
use Rattle.tla_model.specs.Entities.{bound_as}
use Rattle.tla_model.specs.Scopes.{all_grouped}
use Rattle.declared_names.proofs.parts.push_groups.Given as goal

abbrev pub invariant-loop-node : goal.invariant-loop-node
invariant-loop-node l =
    l.names ++ bound_as l.binding (all_grouped (trees (map (tree_at l.tree) (drop l.node-index l.nodes)))) ≡ l.initial.names ++ bound_as l.binding (all_grouped (trees (map (tree_at l.tree) l.nodes)))
