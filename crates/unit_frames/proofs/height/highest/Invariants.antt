use Rattle.std.proofs.Common.{◌≡◌, drop}
use Rattle.std.specs.Prelude.{map, max}
use Rattle.unit_grammar.specs.Heights.{highest_unit}
use Rattle.unit_grammar.specs.UnitNodes.{unit_at}
use Rattle.unit_frames.proofs.height.highest.Given as goal

abbrev pub invariant-loop-unit : goal.invariant-loop-unit
invariant-loop-unit l = record {
  same : max l.measured.highest (highest_unit l.measured.inside (map (unit_at l.tree) (drop l.unit-index l.units))) ≡ highest_unit 0 (map (unit_at l.tree) l.units);
}
