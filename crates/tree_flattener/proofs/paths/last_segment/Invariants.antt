use Rattle.std.proofs.Common.{◌≡◌, None, drop}
use Rattle.flattened_trees.specs.NodeForms.{last_segment}
use Rattle.tree_flattener.proofs.Walking.{at_nodes}
use Rattle.tree_flattener.proofs.paths.last_segment.Given as goal

abbrev pub invariant-loop-node : goal.invariant-loop-node
invariant-loop-node l = last_segment l.last (at_nodes l.tree (drop l.node-index l.nodes)) ≡ last_segment None (at_nodes l.tree l.nodes)
