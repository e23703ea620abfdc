use Rattle.std.proofs.Common.{◌≡◌, ◌≤◌, drop, length}
use Rattle.junction_lists.specs.OpenLists.{covered}
use Rattle.junction_lists.proofs.ListStack.covers.Given as goal

abbrev pub invariant-loop-open : goal.invariant-loop-open
invariant-loop-open l = (l.«open» ≤ length l.lists) × (covered l.col (drop l.«open» l.lists) ≡ drop l.«open» l.lists)

abbrev pub decreases-loop-open : goal.decreases-loop-open
decreases-loop-open l = l.«open»
