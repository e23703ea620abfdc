use Rattle.std.proofs.Common.{◌≡◌, ◌++◌, map, drop}
use Rattle.tree_kinds.specs.TreeDepths.{path_names}
use Rattle.name_context.specs.AsTables.{meant_by}
use Rattle.tree_flattener.proofs.Walking.{at_nodes}
use Rattle.tree_flattener.proofs.paths.path_names.Given as goal

abbrev pub invariant-loop-node : goal.invariant-loop-node
invariant-loop-node l = map meant_by l.names.items ++ path_names l.text.source (at_nodes l.tree (drop l.node-index l.nodes)) ≡ path_names l.text.source (at_nodes l.tree l.nodes)
