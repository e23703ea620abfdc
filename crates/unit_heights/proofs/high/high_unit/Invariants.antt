use Rattle.std.proofs.Common.{◌≡◌, ◌≤◌, drop}
use Rattle.std.specs.Prelude.{map}
use Rattle.tla_tree.specs.Arena.{AreThere}
use Rattle.unit_grammar.specs.UnitNodes.{unit_at, nodes_in}
use Rattle.unit_heights.specs.FirstHigh.{high_unit}
use Rattle.unit_heights.proofs.high.high_unit.Given as goal

abbrev pub invariant-loop-unit : goal.invariant-loop-unit
invariant-loop-unit l = record {
  few : l.depth ≤ l.unit-index;
  there : AreThere l.tree (nodes_in l.begun);
  walked : high_unit l.depth (unit_at l.tree l.begun) (map (unit_at l.tree) (drop l.unit-index l.units)) ≡ high_unit 0 (unit_at l.tree l.fn.first) (map (unit_at l.tree) l.units);
}
