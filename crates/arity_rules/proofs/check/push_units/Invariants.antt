use Rattle.std.proofs.Common.{◌≡◌, ◌++◌, drop}
use Rattle.std.specs.Prelude.{map}
use Rattle.unit_grammar.specs.UnitNodes.{module_of, unit_at}
use Rattle.arity_rules.specs.Arities.{all_unit_faults}
use Rattle.arity_rules.specs.Noted.{told}
use Rattle.arity_rules.proofs.check.push_units.Given as goal

abbrev pub invariant-loop-unit : goal.invariant-loop-unit
invariant-loop-unit l = l.faults ++ all_unit_faults (told l.meanings) (map (unit_at l.tree.tree) (drop l.unit-index l.tree.units)) ≡ l.initial.faults ++ all_unit_faults (told l.meanings) (module_of l.tree).units
