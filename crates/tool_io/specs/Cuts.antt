-- How much a read in memory gives.
use Rattle.std.specs.Prelude.{ℕ, ◌-◌, ◌^◌, max, Option, Some, None}

-- the most bytes of a read that has this cut; one with no cut has no bound of its own
abbrev pub most_by : Option ℕ → ℕ
most_by None = 2 ^ 64 - 1
most_by (Some cut) = max cut 1
