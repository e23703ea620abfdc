use Rattle.std.proofs.Common.{◌≡◌, None, take}
use Rattle.std.specs.List.{AllByRecursion}
use Rattle.tla_tree.specs.Arena.{node_at}
use Rattle.tree_flattener.specs.Making.{module_of}
use Rattle.tree_flattener.proofs.instances.first_instance.Given as goal

abbrev pub invariant-loop-node : goal.invariant-loop-node
invariant-loop-node l = AllByRecursion (λ number. module_of (node_at l.tree number).form ≡ None) (take l.node-index l.nodes)
