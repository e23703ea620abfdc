-- Where a walk has come to in a text.
use Rattle.std.specs.Prelude.{◌≡◌, ℕ, List}
use Rattle.std.specs.Str.{IsCharBoundary}
use Rattle.tla_text.specs.Places.{place_at}
use Rattle.tla_text.specs.declared.Measure.{Measure}
use Rattle.tla_text.specs.declared.Measure.TheVariants as measures
use Rattle.text_cursor.specs.declared.cursor.Columns.{Columns}
use Rattle.text_cursor.specs.declared.cursor.Columns.TheVariants.{Characters, Utf16}
use Rattle.text_cursor.specs.declared.cursor.Cursor.{Cursor}

-- how columns are measured
abbrev pub measure_of : Columns → Measure
measure_of Characters = measures.Characters
measure_of Utf16 = measures.Utf16

-- an offset with its place
abbrev pub cursor_at : Columns → List ℕ → ℕ → Cursor
cursor_at columns text offset = record { offset = offset; place = place_at (measure_of columns) text offset }

-- a cursor stands at a character, with the place of its offset
pub record IsCursor (columns : Columns) (text : List ℕ) (cursor : Cursor) : Type 0 where
  pub boundary : IsCharBoundary text cursor.offset
  pub place : cursor.place ≡ place_at (measure_of columns) text cursor.offset
