use Rattle.tree_flattener.specs.Replacing.{AreStayed}
use Rattle.tree_flattener.proofs.instances.stay.Given as goal

abbrev pub invariant-loop-place : goal.invariant-loop-place
invariant-loop-place l = AreStayed l.fn.state l.state l.place l.fn.made.items l.made.items
