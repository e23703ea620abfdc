use Rattle.std.proofs.Common.{◌≡◌, ◌++◌, drop}
use Rattle.std.specs.Prelude.{map}
use Rattle.tla_tree.specs.Arena.{tree_at}
use Rattle.tla_tree.specs.Syntax.{trees}
use Rattle.tla_model.specs.Entities.{all_placed, bound_as}
use Rattle.declared_names.proofs.parts.push_all_placed.Given as goal

abbrev pub invariant-loop-node : goal.invariant-loop-node
invariant-loop-node l =
    l.names ++ bound_as l.binding (all_placed (trees (map (tree_at l.tree) (drop l.node-index l.nodes)))) ≡ l.initial.names ++ bound_as l.binding (all_placed (trees (map (tree_at l.tree) l.nodes)))
