use Rattle.std.proofs.Common.{◌≤◌, drop, length}
use Rattle.precedence.specs.Waiting as stack
use Rattle.precedence.proofs.op_stack.kept_before.Given as goal

abbrev pub invariant-loop-kept : goal.invariant-loop-kept
invariant-loop-kept l = (l.kept ≤ length l.waiting) × stack.AllEnd (drop l.kept l.waiting) l.coming

abbrev pub decreases-loop-kept : goal.decreases-loop-kept
decreases-loop-kept l = l.kept
