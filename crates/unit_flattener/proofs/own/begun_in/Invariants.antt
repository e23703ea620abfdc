use Rattle.std.proofs.Common.{◌≡◌, ◌≤◌, List, drop, length, map, reverse}
use Rattle.tla_tree.specs.Arena.{Node}
use Rattle.unit_grammar.specs.UnitNodes.{unit_at}
use Rattle.unit_flattener.specs.Ahead.{taken_by, taken_in}
use Rattle.unit_flattener.proofs.own.begun_in.Given as goal

abbrev pub invariant-loop-index : goal.invariant-loop-index
invariant-loop-index l = record {
  within : l.index ≤ length l.units;
  taken : (nodes : List Node) → taken_in l.ends.items l.ending.items l.begun.items ≡ taken_by (map (unit_at nodes) (drop l.index l.units)) (reverse l.fn.ends.items);
}

abbrev pub decreases-loop-index : goal.decreases-loop-index
decreases-loop-index l = l.index
