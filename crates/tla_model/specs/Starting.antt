-- How the places of what begins somewhere in a text are kept: under where each begins.
use Rattle.std.specs.Prelude.{◌≡◌, ◌+◌, ◌<◌, ◌^◌, ℕ, List, Option, Some, None, length, nat_eq, nat_lt, if◌then◌else◌}
use Rattle.tla_model.specs.Entities.{place_in}
use Rattle.tla_model.specs.Tables.{lookup}

-- the place of the first that begins there, if one does
abbrev pub noted : List ℕ → ℕ → Option ℕ
noted starts start = if nat_lt (place_in starts start) (length starts) then Some (place_in starts start) else None

-- the entries have for each start the place that is noted for it, and places are numbers of 32 bits, as are those of the next
pub record AreNoted (entries : List (ℕ × ℕ)) (starts : List ℕ) : Type 0 where
  pub few : length starts + 1 < 2 ^ 32
  pub places : (start : ℕ) → lookup nat_eq entries start ≡ noted starts start
