-- Answers that are exact.
use Rattle.std.specs.Prelude.{Bool}
use Rattle.std.specs.Bool.{MatchBool}

-- the answer is `true` where this holds, and `false` where it does not
abbrev pub Tells : Bool → Type 0 → Type 0
Tells answer P = MatchBool answer P (¬ P)
