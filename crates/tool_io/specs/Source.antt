-- What a read gives.
use Rattle.std.specs.Prelude.{ℕ, Result, Ok, Err}

-- how many bytes a read gave; a refused one gave none
abbrev pub given : {E : Type 0} → Result ℕ E → ℕ
given (Ok count) = count
given (Err _) = 0
