-- Module names as the entries of a table.
use Rattle.std.specs.Prelude.{ℕ, List, Option, map}
use Rattle.std.specs.Borrow.{Bor}
use Rattle.module_scope.specs.Environments.{Environment}

-- the environment that the entries of a table are
abbrev pub environment_of : {Known : Type 0} → List (Bor (List ℕ) × Option Known) → Environment Known
environment_of entries = map (λ entry. (entry.0.now, entry.1)) entries
