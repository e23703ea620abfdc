-- How large columns get.
use Rattle.std.proofs.Common.{◌≡◌, ℕ, ◌+◌, ◌-◌, ◌*◌, ◌<◌, ◌≤◌, Bool, true, false, eqb, ltb, cond, List, [], ◌∷◌, ◌++◌, length, refl, ap, ◌∙◌, ⊎_elim, arith, length-append}
use Rattle.std.proofs.Math.Utf8.{encode, encodes}
use Rattle.std.proofs.lemmas.Bool.{cases_lt, cond-true, lt-ltb, le-ltb}
use Rattle.std.proofs.lemmas.Str.{length-encode, len_utf8_bounds, encodes-chars, chars_past_char, chars-nil}
use Rattle.std.specs.Str.{chars, IsUtf8}
use Rattle.std.specs.Char.{len_utf8}
use Rattle.tla_text.specs.Places.{next_column, next_stop, utf16_len, stops_before, bytes_of_units}
use Rattle.tla_text.specs.LineStarts.{column_after}
use Rattle.tla_text.specs.declared.Measure.{Measure}
use Rattle.tla_text.specs.declared.Measure.TheVariants.{Characters, Alignment, Utf16}

-- a column never falls
next_column-le : (m : Measure) (column c : ℕ) → column ≤ next_column m column c
next_column-le Characters column c = omega arith
next_column-le Alignment column c = stop (eqb c 9)
  where
    stop : (tab : Bool) → column ≤ cond tab (next_stop column) (column + 1)
    stop true = omega arith
    stop false = omega arith
next_column-le Utf16 column c = omega arith

pub column_after-le : (m : Measure) (column : ℕ) (cs : List ℕ) → column ≤ column_after m column cs
column_after-le m column [] = omega arith
column_after-le m column (c ∷ cs) = let now = next_column-le m column c in let later = column_after-le m (next_column m column c) cs in omega (arith, now, later)

len-one : (c : ℕ) → 1 ≤ len_utf8 c
len-one c = (len_utf8_bounds c).0

utf16_len-le : (c : ℕ) → utf16_len c ≤ len_utf8 c
utf16_len-le c =
    ⊎_elim
    (λ (low : c < 0x1_0000). let e : utf16_len c ≡ 1 = cond-true (ltb c 0x1_0000) 1 2 (lt-ltb c 0x1_0000 low) in omega (arith, e, len-one c))
    (λ (high : 0x1_0000 ≤ c). rw (le-ltb c 0x80 (omega arith), le-ltb c 0x800 (omega arith), le-ltb c 0x1_0000 high) (omega arith))
    (cases_lt c 0x1_0000)

-- a character has at least as many bytes as it has units, and is at most eight columns wide
pub next_column-wide : (m : Measure) (column c : ℕ) → next_column m column c ≤ column + 8 * len_utf8 c
next_column-wide Characters column c = omega (arith, len-one c)
next_column-wide Alignment column c = stop (eqb c 9)
  where
    stop : (tab : Bool) → cond tab (next_stop column) (column + 1) ≤ column + 8 * len_utf8 c
    stop true = omega (arith, len-one c)
    stop false = omega (arith, len-one c)
next_column-wide Utf16 column c = omega (arith, utf16_len-le c)

pub column_after-wide : (m : Measure) (column : ℕ) (cs : List ℕ) → column_after m column cs ≤ column + 8 * length (encodes cs)
column_after-wide m column [] = omega arith
column_after-wide m column (c ∷ cs) =
    let now = next_column-wide m column c in
    let later = column_after-wide m (next_column m column c) cs in
    omega (arith, now, later, length-append (encode c) (encodes cs), length-encode c)

pub characters-within : (column : ℕ) (cs : List ℕ) → column_after Characters column cs ≤ column + length (encodes cs)
characters-within column [] = omega arith
characters-within column (c ∷ cs) = let later = characters-within (column + 1) cs in omega (arith, later, length-append (encode c) (encodes cs), length-encode c, len-one c)

pub units-within : (column : ℕ) (cs : List ℕ) → column_after Utf16 column cs ≤ column + length (encodes cs)
units-within column [] = omega arith
units-within column (c ∷ cs) = let later = units-within (column + utf16_len c) cs in omega (arith, later, length-append (encode c) (encodes cs), length-encode c, utf16_len-le c)

-- the same of a piece of text
pub piece-wide : (m : Measure) (piece : List ℕ) → IsUtf8 piece → column_after m 0 (chars piece) ≤ 8 * length piece
piece-wide m piece u = let h = column_after-wide m 0 (chars piece) in omega (arith, h, ap length (encodes-chars piece u))

pub characters-short : (piece : List ℕ) → IsUtf8 piece → column_after Characters 0 (chars piece) ≤ length piece
characters-short piece u = let h = characters-within 0 (chars piece) in omega (arith, h, ap length (encodes-chars piece u))

pub units-short : (piece : List ℕ) → IsUtf8 piece → column_after Utf16 0 (chars piece) ≤ length piece
units-short piece u = let h = units-within 0 (chars piece) in omega (arith, h, ap length (encodes-chars piece u))

-- ---- turns of loops over the characters of a piece

pub column_turn : (m : Measure) (column c : ℕ) (rest more : List ℕ) → IsUtf8 rest → rest ≡ encode c ++ more → column_after m column (chars rest) ≡ column_after m (next_column m column c) (chars more)
column_turn m column c rest more u e = ap (λ l. column_after m column l) (chars_past_char rest more c u e)

pub column_next-le : (m : Measure) (column c : ℕ) (rest more : List ℕ) → IsUtf8 rest → rest ≡ encode c ++ more → next_column m column c ≤ column_after m column (chars rest)
column_next-le m column c rest more u e = let h = column_after-le m (next_column m column c) (chars more) in omega (arith, h, column_turn m column c rest more u e)

pub units_stop : (left c : ℕ) (rest more : List ℕ) → IsUtf8 rest → rest ≡ encode c ++ more → stops_before left c ≡ true → bytes_of_units left (chars rest) ≡ 0
units_stop left c rest more u e h = rw (chars_past_char rest more c u e, h) refl

pub units_turn : (left c : ℕ) (rest more : List ℕ) → IsUtf8 rest → rest ≡ encode c ++ more → stops_before left c ≡ false → bytes_of_units left (chars rest) ≡ len_utf8 c + bytes_of_units (left - utf16_len c) (chars more)
units_turn left c rest more u e h = rw (chars_past_char rest more c u e, h) refl

pub units_end : (left : ℕ) (rest : List ℕ) → rest ≡ [] → bytes_of_units left (chars rest) ≡ 0
units_end left rest e = rw (e, chars-nil) refl

pub column_end : (m : Measure) (column : ℕ) (rest : List ℕ) → rest ≡ [] → column_after m column (chars rest) ≡ column
column_end m column rest e = rw (e, chars-nil) refl

pub char_shorter : (c : ℕ) (rest more : List ℕ) → rest ≡ encode c ++ more → (length rest ≡ len_utf8 c + length more) × (1 ≤ len_utf8 c)
char_shorter c rest more e = (ap length e ∙ length-append (encode c) more ∙ ap (λ n. n + length more) (length-encode c), len-one c)
