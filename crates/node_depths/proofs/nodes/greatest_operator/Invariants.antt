use Rattle.std.proofs.Common.{◌≡◌, ◌<◌, take}
use Rattle.kind_table.specs.Flattened.{flat_of, number_in}
use Rattle.level_text.specs.Depth.{greatest, operator_depth}
use Rattle.node_depths.proofs.nodes.greatest_operator.Given as goal

abbrev pub invariant-loop-node : goal.invariant-loop-node
invariant-loop-node l = (l.most ≡ greatest (operator_depth (flat_of l.flat) (number_in l.depths)) (take l.node-index l.nodes)) × (l.most < 65536)
