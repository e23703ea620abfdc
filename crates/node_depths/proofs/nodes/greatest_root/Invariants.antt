use Rattle.std.proofs.Common.{◌≡◌, ◌<◌, map, take}
use Rattle.kind_table.specs.Flattened.{number_in}
use Rattle.level_text.specs.Depth.{greatest}
use Rattle.node_depths.proofs.nodes.greatest_root.Given as goal

abbrev pub invariant-loop-replacement : goal.invariant-loop-replacement
invariant-loop-replacement l = (l.most ≡ greatest (number_in l.depths) (map (λ r. r.root) (take l.replacement-index l.replacements))) × (l.most < 65536)
