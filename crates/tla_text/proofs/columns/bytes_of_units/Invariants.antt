use Rattle.std.proofs.Common.{◌≡◌, ◌+◌, length}
use Rattle.std.specs.Str.{chars, IsUtf8}
use Rattle.tla_text.specs.Places.{bytes_of_units}
use Rattle.tla_text.proofs.columns.bytes_of_units.Given as goal

abbrev pub invariant-loop-c : goal.invariant-loop-c
invariant-loop-c l =
    IsUtf8 l.rest × (l.bytes + bytes_of_units l.left (chars l.rest) ≡ bytes_of_units l.units (chars l.text)) × (l.bytes + length l.rest ≡ length l.text)

abbrev pub decreases-loop-c : goal.decreases-loop-c
decreases-loop-c l = length l.rest
