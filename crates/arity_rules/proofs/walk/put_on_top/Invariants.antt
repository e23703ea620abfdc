use Rattle.std.proofs.Common.{◌≡◌, ◌++◌, length}
use Rattle.arity_rules.specs.Tasks.{stack}
use Rattle.arity_rules.proofs.walk.put_on_top.Given as goal

abbrev pub invariant-loop-task : goal.invariant-loop-task
invariant-loop-task l = l.opened.items ++ stack l.tasks.items ≡ l.initial.opened.items ++ stack l.initial.tasks.items

abbrev pub decreases-loop-task : goal.decreases-loop-task
decreases-loop-task l = length l.opened.items
