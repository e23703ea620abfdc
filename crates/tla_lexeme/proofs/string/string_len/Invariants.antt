use Rattle.std.proofs.Common.{◌≡◌, ◌+◌, drop, false, length}
use Rattle.tla_lexeme.specs.Lengths.{string_end}
use Rattle.tla_lexeme.proofs.string.string_len.Given as goal

abbrev pub invariant-loop-byte : goal.invariant-loop-byte
invariant-loop-byte l = (string_end l.at l.escaped l.rest ≡ string_end 1 false (drop 1 l.text)) × (l.at + length l.rest ≡ length l.text)

abbrev pub decreases-loop-byte : goal.decreases-loop-byte
decreases-loop-byte l = length l.rest
