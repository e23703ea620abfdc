use Rattle.std.proofs.Common.{◌≡◌, drop, map}
use Rattle.front_laws.specs.Fronts.{Tree}
use Rattle.unit_grammar.specs.UnitNodes.{module_of, unit_at}
use Rattle.server_outlines.specs.Outlines.{levels_of, symbols_by}
use Rattle.server_outlines.specs.Passing.{all_names}
use Rattle.server_outlines.proofs.outline.symbols_of_units.Given as goal

abbrev pub invariant-loop-unit : goal.invariant-loop-unit
invariant-loop-unit l = record {
  names : all_names l.text l.outline (levels_of l.text (map (unit_at l.tree.tree) (drop l.unit-index l.tree.units))) ≡ symbols_by l.text (Tree (module_of l.tree));
  text : l.walk ≡ l.text;
}
