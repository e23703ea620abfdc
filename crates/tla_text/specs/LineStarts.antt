-- What is kept of a text's lines, and the columns within one line.
use Rattle.std.specs.Prelude.{ℕ, ◌+◌, ◌≤◌, ◌<◌, List, [], ◌∷◌, if◌then◌else◌, length, slice_index}
use Rattle.tla_text.specs.Places.{ends_line, next_column}
use Rattle.tla_text.specs.declared.Measure.{Measure}

-- where lines start behind line ends, in bytes that begin at an offset
abbrev pub starts_after : ℕ → List ℕ → List ℕ
starts_after at [] = []
starts_after at (b ∷ bs) = if ends_line b bs then (at + 1) ∷ starts_after (at + 1) bs else starts_after (at + 1) bs

-- the column after some characters of one line
abbrev pub column_after : Measure → ℕ → List ℕ → ℕ
column_after m column [] = column
column_after m column (c ∷ cs) = column_after m (next_column m column c) cs

-- an offset is in the line behind so many of these starts
pub record IsLineOf (line offset : ℕ) (starts : List ℕ) : Type 0 where
  pub bound : line ≤ length starts
  pub below : (i : ℕ) → i < line → slice_index starts i ≤ offset
  pub above : (i : ℕ) → line ≤ i → i < length starts → offset < slice_index starts i
