use Rattle.std.proofs.Common.{◌≡◌, ◌++◌, drop}
use Rattle.std.specs.Prelude.{map}
use Rattle.tla_model.specs.Entities as entities
use Rattle.unit_grammar.specs.UnitNodes.{module_of, unit_at}
use Rattle.declared_names.proofs.declared.declaring.Given as goal

abbrev pub invariant-loop-unit : goal.invariant-loop-unit
invariant-loop-unit l = l.names ++ entities.declaring (map (unit_at l.tree.tree) (drop l.unit-index l.tree.units)) ≡ entities.declaring (module_of l.tree).units
