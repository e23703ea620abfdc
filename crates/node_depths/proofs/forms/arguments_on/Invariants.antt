use Rattle.std.proofs.Common.{◌≡◌, ◌≤◌, min, take}
use Rattle.kind_table.specs.Flattened.{flat_of}
use Rattle.level_text.specs.Depth as text
use Rattle.node_depths.proofs.forms.arguments_on.Given as goal

abbrev pub invariant-loop-instance : goal.invariant-loop-instance
invariant-loop-instance l = (l.taken ≡ min (text.parameters_on (flat_of l.flat) (λ i. 0) (take l.instance-index l.path)) l.count) × (l.taken ≤ l.count)
