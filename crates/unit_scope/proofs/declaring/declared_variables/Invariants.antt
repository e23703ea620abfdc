use Rattle.std.proofs.Common.{◌≡◌, take}
use Rattle.tla_model.specs.Entities.{variables}
use Rattle.unit_scope.proofs.declaring.declared_variables.Given as goal

abbrev pub invariant-loop-name : goal.invariant-loop-name
invariant-loop-name l = l.binders ≡ variables (take l.name-index l.names)
