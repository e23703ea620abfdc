use Rattle.std.proofs.Common.{rules}
use Rattle.precedence.specs.Choices.{same_edge}
use Rattle.precedence.proofs.Deciding.{test-same}
use Rattle.precedence.proofs.neighbour.is_same.Goals as goal

pub returns-in_default : goal.returns-in_default
unfolding same_edge
returns-in_default c = search rules

pub returns-in-Open-matches : goal.returns-in-Open-matches
unfolding same_edge
returns-in-Open-matches c = search rules

pub returns-in_default-matches : goal.returns-in_default-matches
unfolding same_edge
returns-in_default-matches c = search rules

pub returns-in-Applied-matches : goal.returns-in-Applied-matches
unfolding same_edge
returns-in-Applied-matches c = search rules

pub returns-in_default-matches-2 : goal.returns-in_default-matches-2
unfolding same_edge
returns-in_default-matches-2 c = search rules

pub returns-in-Selected-matches : goal.returns-in-Selected-matches
unfolding same_edge
returns-in-Selected-matches c = search rules

pub returns-in_default-matches-3 : goal.returns-in_default-matches-3
unfolding same_edge
returns-in_default-matches-3 c = search rules

pub returns-in-Operator-other : goal.returns-in-Operator-other
returns-in-Operator-other c = rw (c.in-Operator.is, c.in-Operator-other.is) (test-same _ c.in-Operator.operator c.in-Operator-other.further c.is_same_operator.ensures)
