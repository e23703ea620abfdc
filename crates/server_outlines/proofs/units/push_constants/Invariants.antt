use Rattle.std.proofs.Common.{◌≡◌, ◌++◌, drop, map}
use Rattle.tla_tree.specs.Arena.{tree_at}
use Rattle.tla_tree.specs.Syntax.{trees}
use Rattle.server_outlines.specs.Outlines.{constants_symbols}
use Rattle.server_outlines.proofs.units.push_constants.Given as goal

abbrev pub invariant-loop-node : goal.invariant-loop-node
invariant-loop-node l = record {
  symbols : l.symbols ++ constants_symbols l.initial.walk (trees (map (tree_at l.tree) (drop l.node-index l.nodes))) ≡ l.initial.symbols ++ constants_symbols l.initial.walk (trees (map (tree_at l.tree) l.nodes));
  text : l.walk ≡ l.initial.walk;
}
