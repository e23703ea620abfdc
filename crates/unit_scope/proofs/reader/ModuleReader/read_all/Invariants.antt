use Rattle.std.proofs.Common.{take}
use Rattle.std.specs.Prelude.{map}
use Rattle.unit_grammar.specs.UnitNodes.{unit_at}
use Rattle.unit_scope.specs.Steps.{Leads, Tells, behind_units, found_along}
use Rattle.unit_scope.proofs.reader.ModuleReader.read_all.Given as goal

abbrev pub invariant-loop-unit : goal.invariant-loop-unit
invariant-loop-unit l = record {
  state : Leads l.text (behind_units l.text (map (unit_at l.tree) (take l.unit-index l.units))) l.initial.self l.self;
  findings : Tells l.text (found_along l.text (map (unit_at l.tree) (take l.unit-index l.units))) l.initial.self l.initial.findings l.findings;
}
