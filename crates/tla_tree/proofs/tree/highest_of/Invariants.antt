use Rattle.std.proofs.Common.{◌≡◌}
use Rattle.std.specs.Prelude.{max, drop}
use Rattle.tla_tree.specs.Stored as stored
use Rattle.tla_tree.proofs.tree.highest_of.Given as goal

abbrev pub invariant-loop-child : goal.invariant-loop-child
invariant-loop-child l = max l.highest (stored.highest_of l.nodes (drop l.child-index l.children)) ≡ stored.highest_of l.nodes l.children
