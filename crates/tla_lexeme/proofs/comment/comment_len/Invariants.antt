use Rattle.std.proofs.Common.{◌≡◌, ◌+◌, ◌≤◌, length}
use Rattle.tla_lexeme.specs.Lexing.{comment_end, comment_len}
use Rattle.tla_lexeme.proofs.comment.comment_len.Given as goal

abbrev pub invariant-loop-more : goal.invariant-loop-more
invariant-loop-more l = (comment_end l.at l.depth 0 l.rest ≡ comment_len l.text) × (l.at + length l.rest ≡ length l.text) × (l.depth ≤ l.at)

abbrev pub decreases-loop-more : goal.decreases-loop-more
decreases-loop-more l = length l.rest
