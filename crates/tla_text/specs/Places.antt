-- Where things stand in a text, counted from its start over its characters.
use Rattle.std.specs.Prelude.{ℕ, ◌+◌, ◌-◌, ◌*◌, ◌/◌, ◌≤◌, suc, zero, List, [], ◌∷◌, ◌++◌, Bool, false, not, ◌&&◌, ◌||◌, ◌==◌, nat_lt, if◌then◌else◌, length, take, drop}
use Rattle.std.specs.Char.{len_utf8}
use Rattle.std.specs.Str.{chars, IsUtf8}
use Rattle.tla_text.specs.declared.Place.{Place}
use Rattle.tla_text.specs.declared.TextError.{TextError}
use Rattle.tla_text.specs.declared.TextError.TheVariants.{NotUtf8, Memory}
use Rattle.tla_text.specs.declared.Measure.{Measure}
use Rattle.tla_text.specs.declared.Measure.TheVariants.{Characters, Alignment, Utf16}

-- a line feed comes next
abbrev pub begins_with_line_feed : List ℕ → Bool
begins_with_line_feed [] = false
begins_with_line_feed (c ∷ cs) = c == 10

-- A character, before these others, ends a line: a line feed, or a carriage return that no line feed follows.
abbrev pub ends_line : ℕ → List ℕ → Bool
ends_line c after = c == 10 || (c == 13 && not (begins_with_line_feed after))

-- how many units of UTF-16 a character has
abbrev pub utf16_len : ℕ → ℕ
utf16_len c = if nat_lt c 0x1_0000 then 1 else 2

-- the next column that is a multiple of eight
abbrev pub next_stop : ℕ → ℕ
next_stop column = 8 * (column / 8 + 1)

-- the column after a character in this column
abbrev pub next_column : Measure → ℕ → ℕ → ℕ
next_column Characters column c = column + 1
next_column Alignment column c = if c == 9 then next_stop column else column + 1
next_column Utf16 column c = column + utf16_len c

-- the place behind a character that ends a line or does not
abbrev pub behind : Measure → Place → ℕ → Bool → Place
behind m p c ends = if ends then record { line = p.line + 1; column = 0 } else record { line = p.line; column = next_column m p.column c }

-- the place behind a character, before these others
abbrev pub next_place : Measure → Place → ℕ → List ℕ → Place
next_place m p c after = behind m p c (ends_line c after)

-- the place after some characters that begin at a place, before these others
abbrev pub place_after : Measure → Place → List ℕ → List ℕ → Place
place_after m p [] after = p
place_after m p (c ∷ cs) after = place_after m (next_place m p c (cs ++ after)) cs after

-- where a text starts
abbrev pub text_start : Place
text_start = record { line = 0; column = 0 }

-- the place of an offset in a text
abbrev pub place_at : Measure → List ℕ → ℕ → Place
place_at m text offset = place_after m text_start (chars (take offset text)) (chars (drop offset text))

-- A number of units of a line, counted down from its start, ends before this character: a line end, or one with more units than are left.
abbrev pub stops_before : ℕ → ℕ → Bool
stops_before units c = c == 10 || c == 13 || nat_lt units (utf16_len c)

-- How many bytes stand before a number of units of UTF-16, in characters that begin within a line: at
-- most those of the line, and none of a character of which not all units are counted.
abbrev pub bytes_of_units : ℕ → List ℕ → ℕ
bytes_of_units units [] = 0
bytes_of_units units (c ∷ cs) =
    if stops_before units c then 0 else len_utf8 c + bytes_of_units (units - utf16_len c) cs

-- how many bytes stand before so many units of the line that is so many lines on
abbrev pub bytes_before : ℕ → ℕ → List ℕ → ℕ
bytes_before zero units cs = bytes_of_units units cs
bytes_before (suc line) units [] = 0
bytes_before (suc line) units (c ∷ cs) = len_utf8 c + (if ends_line c cs then bytes_before line units cs else bytes_before (suc line) units cs)

-- the offset of a line and a number of units of UTF-16 in it
abbrev pub offset_of_unit : List ℕ → ℕ → ℕ → ℕ
offset_of_unit text line units = bytes_before line units (chars text)

-- a text with a piece in place of the bytes from one offset to another
abbrev pub spliced : List ℕ → ℕ → ℕ → List ℕ → List ℕ
spliced text start end piece = take start text ++ (piece ++ drop end text)

-- so many bytes are UTF-8, and no more are
pub record IsLongestUtf8 (bytes : List ℕ) (len : ℕ) : Type 0 where
  pub fits : len ≤ length bytes
  pub front : IsUtf8 (take len bytes)
  pub longest : (n : ℕ) → n ≤ length bytes → IsUtf8 (take n bytes) → n ≤ len

-- what a refusal to read bytes says: of want of memory nothing
abbrev pub IsTextError : List ℕ → TextError → Type 0
IsTextError bytes (NotUtf8 at) = (¬ (IsUtf8 bytes)) × IsLongestUtf8 bytes at
IsTextError bytes Memory = Unit {0}
