use Rattle.std.proofs.Common.{drop}
use Rattle.std.specs.Prelude.{map}
use Rattle.unit_grammar.specs.UnitNodes.{unit_at}
use Rattle.module_constancy.proofs.Modules.{IsReadTo}
use Rattle.module_constancy.proofs.module.are_constant_units.Given as goal

abbrev pub invariant-loop-unit : goal.invariant-loop-unit
invariant-loop-unit g l = IsReadTo l.text l.initial.place l.place (map (unit_at l.tree) l.units) (map (unit_at l.tree) (drop l.unit-index l.units)) (g.F.Files.constant l.files)
