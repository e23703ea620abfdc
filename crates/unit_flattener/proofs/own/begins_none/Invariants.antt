use Rattle.std.proofs.Common.{◌≡◌, false, take}
use Rattle.std.specs.List.{All}
use Rattle.unit_flattener.specs.Ahead.{begins}
use Rattle.unit_flattener.proofs.own.begins_none.Given as goal

abbrev pub invariant-loop-unit : goal.invariant-loop-unit
invariant-loop-unit l = All (λ unit. begins unit ≡ false) (take l.unit-index l.units)
