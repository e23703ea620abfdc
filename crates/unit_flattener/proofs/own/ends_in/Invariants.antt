use Rattle.std.proofs.Common.{[], map, take}
use Rattle.unit_grammar.specs.UnitNodes.{unit_at}
use Rattle.unit_scope.specs.EnclosingReadings.{IsSomewhere}
use Rattle.unit_scope.specs.Steps.{Leads, behind_units}
use Rattle.unit_flattener.specs.Ahead.{AppendsEnds}
use Rattle.unit_flattener.proofs.own.ends_in.Given as goal

abbrev pub invariant-loop-unit : goal.invariant-loop-unit
invariant-loop-unit l = record {
  somewhere : IsSomewhere l.text l.reader;
  read : Leads l.text (behind_units l.text (map (unit_at l.tree) (take l.unit-index l.units))) l.fn.reader l.reader;
  ends : AppendsEnds l.text l.fn.reader (map (unit_at l.tree) (take l.unit-index l.units)) [] l.ends.items;
}
