use Rattle.std.proofs.Common.{◌≡◌, length}
use Rattle.std.specs.Str.{chars, IsUtf8}
use Rattle.tla_text.specs.LineStarts as lines
use Rattle.tla_text.proofs.columns.column_after.Given as goal

abbrev pub invariant-loop-c : goal.invariant-loop-c
invariant-loop-c l = IsUtf8 l.rest × (lines.column_after l.measure l.column (chars l.rest) ≡ lines.column_after l.measure 0 (chars l.piece))

abbrev pub decreases-loop-c : goal.decreases-loop-c
decreases-loop-c l = length l.rest
