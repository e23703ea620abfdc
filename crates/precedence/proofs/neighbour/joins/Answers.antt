use Rattle.std.proofs.Common.{rules}
use Rattle.precedence.specs.Choices.{joins}
use Rattle.precedence.proofs.neighbour.joins.Goals as goal

pub returns-then-may_hold : goal.returns-then-may_hold
unfolding joins
returns-then-may_hold c = search rules

pub returns-then-is_same : goal.returns-then-is_same
unfolding joins
returns-then-is_same c = search rules

pub returns-else-is_same : goal.returns-else-is_same
unfolding joins
returns-else-is_same c = search rules
