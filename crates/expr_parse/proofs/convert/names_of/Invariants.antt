use Rattle.std.proofs.Common.{◌≡◌, ◌-◌, ◌≤◌, take, length}
use Rattle.std.specs.Prelude.{map}
use Rattle.tla_tree.specs.Arena.{tree_at, node_at}
use Rattle.tla_tree.specs.Syntax.{trees}
use Rattle.expr_parse.specs.TurnMeaning.{AreNames}
use Rattle.expr_parse.proofs.convert.names_of.Given as goal

abbrev pub invariant-loop-index : goal.invariant-loop-index
invariant-loop-index l = record {
  below : l.index ≤ l.count;
  count : l.count ≡ length (node_at l.initial.tree l.tuple).children;
  names : AreNames l.initial.tree l.tree l.names.items (trees (take l.index (map (tree_at l.initial.tree) (node_at l.initial.tree l.tuple).children)));
}

abbrev pub decreases-loop-index : goal.decreases-loop-index
decreases-loop-index l = l.count - l.index
