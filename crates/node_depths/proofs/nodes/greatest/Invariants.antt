use Rattle.std.proofs.Common.{◌≡◌, ◌<◌, take}
use Rattle.kind_table.specs.Flattened.{number_in}
use Rattle.level_text.specs.Depth.{greatest}
use Rattle.node_depths.proofs.nodes.greatest.Given as goal

abbrev pub invariant-loop-node : goal.invariant-loop-node
invariant-loop-node l = (l.most ≡ greatest (number_in l.depths) (take l.node-index l.nodes)) × (l.most < 65536)
