use Rattle.std.proofs.Common.{◌≡◌, drop}
use Rattle.kind_text.specs.ExpandedKind.{ruled}
use Rattle.kind_table.specs.Operands.{ruled_on}
use Rattle.kind_table.proofs.kinds.ruled_kind.Given as goal

abbrev pub invariant-loop-place : goal.invariant-loop-place
invariant-loop-place l = ruled l.rule l.kinds ≡ ruled_on l.rule l.place l.greatest (drop l.place l.kinds)
