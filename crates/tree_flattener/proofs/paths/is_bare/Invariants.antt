use Rattle.std.proofs.Common.{◌≡◌, false, drop}
use Rattle.tree_kinds.specs.Expanding.{is_bare}
use Rattle.tree_flattener.proofs.Walking.{at_nodes}
use Rattle.tree_flattener.proofs.paths.is_bare.Given as goal

abbrev pub invariant-loop-node : goal.invariant-loop-node
invariant-loop-node l = is_bare l.bare (at_nodes l.tree (drop l.node-index l.nodes)) ≡ is_bare false (at_nodes l.tree l.nodes)
