use Rattle.std.proofs.Common.{◌≡◌, ◌++◌, drop}
use Rattle.std.specs.Prelude.{map}
use Rattle.tla_tree.specs.Arena.{tree_at}
use Rattle.tla_tree.specs.Syntax.{trees}
use Rattle.tla_model.specs.Entities as entities
use Rattle.declared_names.proofs.parts.orders.Given as goal

abbrev pub invariant-loop-node : goal.invariant-loop-node
invariant-loop-node l =
    l.orders ++ entities.orders (trees (map (tree_at l.tree) (drop l.node-index l.nodes))) ≡ entities.orders (trees (map (tree_at l.tree) l.nodes))
