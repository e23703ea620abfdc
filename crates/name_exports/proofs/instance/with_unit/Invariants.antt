use Rattle.std.proofs.Common.{◌≡◌, ◌++◌, drop}
use Rattle.name_exports.proofs.instance.with_unit.Given as goal

abbrev pub invariant-loop-before : goal.invariant-loop-before
invariant-loop-before l = l.units ++ drop l.before-index l.via ≡ l.via
