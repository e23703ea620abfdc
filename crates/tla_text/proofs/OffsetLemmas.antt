-- Offsets of units stand at characters.
use Rattle.std.proofs.Common.{◌≡◌, ℕ, zero, suc, ◌+◌, ◌-◌, Bool, true, false, cond, List, [], ◌∷◌, ◌++◌, length, refl, sym, ap, ◌∙◌, subst, arith, length-append}
use Rattle.std.proofs.Math.Utf8.{encode, encodes, scalars}
use Rattle.std.proofs.lemmas.Str.{length-encode, encodes-append, encodes-chars, scalars-chars, IsCharBoundary-at_seam}
use Rattle.std.specs.Str.{chars, IsUtf8, IsCharBoundary}
use Rattle.std.specs.Char.{len_utf8}
use Rattle.tla_text.specs.Places.{ends_line, stops_before, utf16_len, bytes_before, bytes_of_units, offset_of_unit}
use Rattle.tla_text.proofs.PlaceLemmas.{utf8_back}

-- so many bytes stand before one of some characters, or are all of them
record IsCut (cs : List ℕ) (n : ℕ) : Type 0 where
  before : List ℕ
  rest : List ℕ
  split : cs ≡ before ++ rest
  bytes : length (encodes before) ≡ n

cut_start : (cs : List ℕ) → IsCut cs 0
cut_start cs = record { before = []; rest = cs; split = refl; bytes = refl }

cut_behind : (c n : ℕ) (cs : List ℕ) → IsCut cs n → IsCut (c ∷ cs) (len_utf8 c + n)
cut_behind c n cs p = record {
  before = c ∷ p.before;
  rest = p.rest;
  split = ap (λ l. c ∷ l) p.split;
  bytes = omega (arith, p.bytes, length-append (encode c) (encodes p.before), length-encode c);
}

units_cut_turn : (stops : Bool) (c n : ℕ) (cs : List ℕ) → IsCut cs n → IsCut (c ∷ cs) (cond stops 0 (len_utf8 c + n))
units_cut_turn true c n cs p = cut_start (c ∷ cs)
units_cut_turn false c n cs p = cut_behind c n cs p

units_cut : (units : ℕ) (cs : List ℕ) → IsCut cs (bytes_of_units units cs)
units_cut units [] = cut_start []
units_cut units (c ∷ cs) = units_cut_turn (stops_before units c) c (bytes_of_units (units - utf16_len c) cs) cs (units_cut (units - utf16_len c) cs)

line_cut_turn : (ends : Bool) (c m n : ℕ) (cs : List ℕ) → IsCut cs m → IsCut cs n → IsCut (c ∷ cs) (len_utf8 c + cond ends m n)
line_cut_turn true c m n cs p q = cut_behind c m cs p
line_cut_turn false c m n cs p q = cut_behind c n cs q

line_cut : (line units : ℕ) (cs : List ℕ) → IsCut cs (bytes_before line units cs)
line_cut zero units cs = units_cut units cs
line_cut (suc line) units [] = cut_start []
line_cut (suc line) units (c ∷ cs) = line_cut_turn (ends_line c cs) c (bytes_before line units cs) (bytes_before (suc line) units cs) cs (line_cut line units cs) (line_cut (suc line) units cs)

pub offset_of_unit-at_char : (text : List ℕ) (line units : ℕ) → IsUtf8 text → IsCharBoundary text (offset_of_unit text line units)
offset_of_unit-at_char text line units u =
    let p = line_cut line units (chars text) in
    let split : text ≡ encodes p.before ++ encodes p.rest = sym (encodes-chars text u) ∙ ap encodes p.split ∙ encodes-append p.before p.rest in
    let good : IsUtf8 (encodes p.rest) = utf8_back p.before p.rest (subst (λ l. scalars l ≡ true) p.split (scalars-chars text u)) in
    subst (λ n. IsCharBoundary text n) p.bytes (IsCharBoundary-at_seam text (encodes p.before) (encodes p.rest) split good)
