use Rattle.std.proofs.Common.{◌≡◌, drop}
use Rattle.tla_model.specs.Entities.{same_units}
use Rattle.tla_model.proofs.equal.same_units.Given as goal

abbrev pub invariant-loop-index : goal.invariant-loop-index
invariant-loop-index l = same_units (drop l.index l.left) (drop l.index l.right) ≡ same_units l.left l.right
