use Rattle.std.proofs.Common.{◌≡◌, ◌+◌, drop}
use Rattle.unit_heights.specs.FirstHigh.{place_of}
use Rattle.unit_heights.proofs.high.place_of.Given as goal

abbrev pub invariant-loop-place : goal.invariant-loop-place
invariant-loop-place l = place_of l.lexemes l.at ≡ l.place + place_of (drop l.place l.lexemes) l.at
