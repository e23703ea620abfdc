use Rattle.std.proofs.Common.{take}
use Rattle.std.specs.Prelude.{map}
use Rattle.unit_grammar.specs.UnitNodes.{unit_at}
use Rattle.unit_flattener.specs.Walked.{WalksAll}
use Rattle.unit_flattener.proofs.flattener.UnitFlattener.walk_all.Given as goal

abbrev pub invariant-loop-unit : goal.invariant-loop-unit
invariant-loop-unit l = WalksAll l.written (map (unit_at l.written.tree.now) (take l.unit-index l.units)) l.fn.self l.self
