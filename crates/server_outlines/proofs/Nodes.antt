-- The form and the span at the top of a node's tree.
use Rattle.std.proofs.Common.{◌≡◌, ℕ, ◌<◌, List, length, ap}
use Rattle.tla_tree.specs.Arena.{Node, node_at, tree_at}
use Rattle.tla_tree.specs.Syntax.{form, span}
use Rattle.tla_tree.proofs.Nodes.{tree_at-form}

pub form-at : (nodes : List Node) (node : ℕ) → node < length nodes → form (tree_at nodes node) ≡ (node_at nodes node).form
form-at nodes node there = ap form (tree_at-form nodes node there).1

pub span-at : (nodes : List Node) (node : ℕ) → node < length nodes → span (tree_at nodes node) ≡ (node_at nodes node).span
span-at nodes node there = ap span (tree_at-form nodes node there).1
