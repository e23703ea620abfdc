use Rattle.std.proofs.Common.{◌≡◌, ◌<◌, take}
use Rattle.kind_table.specs.Flattened.{flat_of, number_in}
use Rattle.level_text.specs.Depth as text
use Rattle.node_depths.proofs.forms.replaced_on.Given as goal

abbrev pub invariant-loop-instance : goal.invariant-loop-instance
invariant-loop-instance l = (l.most ≡ text.replaced_on (flat_of l.flat) (number_in l.depths) (take l.instance-index l.path)) × (l.most < 65536)
