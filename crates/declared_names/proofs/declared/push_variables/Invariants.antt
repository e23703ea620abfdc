use Rattle.std.proofs.Common.{◌≡◌, ◌++◌, take}
use Rattle.tla_model.specs.Entities.{variables}
use Rattle.declared_names.proofs.declared.push_variables.Given as goal

abbrev pub invariant-loop-name : goal.invariant-loop-name
invariant-loop-name l = l.names ≡ l.initial.names ++ variables (take l.name-index l.variables)
