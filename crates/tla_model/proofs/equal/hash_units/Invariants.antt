use Rattle.std.proofs.Common.{◌≡◌, fold, take}
use Rattle.tla_model.specs.Keys.{units_input}
use Rattle.tla_model.proofs.equal.hash_units.Given as goal

abbrev pub invariant-loop-unit : goal.invariant-loop-unit
invariant-loop-unit g l = l.state ≡ fold g.H.Hasher.write l.fn.state (units_input (take l.unit-index l.units))
