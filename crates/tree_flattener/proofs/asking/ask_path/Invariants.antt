use Rattle.std.proofs.Common.{◌≡◌, ◌++◌, drop}
use Rattle.flattened_trees.specs.Questions.{path_asks}
use Rattle.tree_flattener.specs.Steps.{noted}
use Rattle.tree_flattener.proofs.Walking.{at_nodes}
use Rattle.tree_flattener.proofs.asking.ask_path.Given as goal

abbrev pub invariant-loop-i : goal.invariant-loop-i
invariant-loop-i l = l.asked.items ++ noted l.frame (path_asks 0 (at_nodes l.tree (drop l.i l.segments))) ≡ l.fn.asked.items ++ noted l.frame (path_asks 0 (at_nodes l.tree l.segments))
