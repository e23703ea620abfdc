use Rattle.std.proofs.Common.{◌≡◌, drop, map}
use Rattle.kind_text.specs.ExpandedKind.{ruled}
use Rattle.kind_table.specs.Operands.{ruled_on}
use Rattle.kind_table.specs.Table.{picked, value_at}
use Rattle.kind_table.proofs.kinds.operation_kind.Given as goal

abbrev pub invariant-loop-place : goal.invariant-loop-place
invariant-loop-place l =
    ruled l.rule (map (value_at l.arguments.keys) (map (picked l.start l.found) l.nodes))
    ≡ ruled_on l.rule l.place l.greatest (map (value_at l.arguments.keys) (map (picked l.start l.found) (drop l.place l.nodes)))
