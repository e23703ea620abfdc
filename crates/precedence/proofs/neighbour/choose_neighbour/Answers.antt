use Rattle.std.proofs.Common.{rules}
use Rattle.precedence.specs.Choices.{choose}
use Rattle.precedence.proofs.neighbour.choose_neighbour.Goals as goal

pub returns-then-joins : goal.returns-then-joins
unfolding choose
returns-then-joins c = search rules

pub returns-then-may_hold : goal.returns-then-may_hold
unfolding choose
returns-then-may_hold c = search rules

pub returns-else-may_hold : goal.returns-else-may_hold
unfolding choose
returns-else-may_hold c = search rules
