use Rattle.std.proofs.Common.{◌≡◌, ◌++◌}
use Rattle.check_core.proofs.checked.joined.Given as goal

abbrev pub invariant-loop-fault : goal.invariant-loop-fault
invariant-loop-fault l = l.all ++ l.fault-iterator.rest.items ≡ l.fn.faults ++ l.fn.more
