use Rattle.std.proofs.Common.{◌≡◌, ◌+◌, length}
use Rattle.tla_lexeme.specs.ModulePart.{header_from, header_of}
use Rattle.tla_lexeme.proofs.header.header_of.Given as goal

abbrev pub invariant-loop-before : goal.invariant-loop-before
invariant-loop-before l = (header_from l.at l.rest ≡ header_of l.text) × (l.at + length l.rest ≡ length l.text)

abbrev pub decreases-loop-before : goal.decreases-loop-before
decreases-loop-before l = length l.rest
