-- The place of an offset, by that of an offset before it.
use Rattle.std.proofs.Common.{◌≡◌, ℕ, ◌+◌, ◌-◌, ◌*◌, ◌<◌, ◌≤◌, Bool, true, false, List, [], ◌∷◌, ◌++◌, length, take, drop, refl, sym, ap, ◌∙◌, arith, length-append, append_assoc}
use Rattle.std.proofs.Math.Utf8.{encode, encodes}
use Rattle.std.proofs.lemmas.List.{take-append-drop, take-take, drop-take, drop-drop, length-take-le}
use Rattle.std.proofs.lemmas.Str.{length-encode, encodes-chars, chars_past_char, chars-append, chars-nil, len_utf8_bounds, IsUtf8-take, IsUtf8-between}
use Rattle.std.specs.Str.{chars, IsUtf8, IsCharBoundary}
use Rattle.std.specs.Char.{len_utf8}
use Rattle.tla_text.specs.declared.Place.{Place}
use Rattle.tla_text.specs.declared.Measure.{Measure}
use Rattle.tla_text.specs.Places.{place_after, place_at, next_place, behind, ends_line, begins_with_line_feed, text_start}
use Rattle.tla_text.proofs.LineLemmas.{begins-same}
use Rattle.tla_text.proofs.ColumnLemmas.{next_column-wide}

pub begins-chars : (text : List ℕ) → IsUtf8 text → begins_with_line_feed text ≡ begins_with_line_feed (chars text)
begins-chars text u = ap begins_with_line_feed (sym (encodes-chars text u)) ∙ begins-same (chars text)

-- what comes behind an empty piece, and behind another
pub begins_after : (more after : List ℕ) → IsUtf8 after → more ≡ [] → begins_with_line_feed after ≡ begins_with_line_feed (chars more ++ chars after)
begins_after more after u e = rw (e, chars-nil) (begins-chars after u)

begins-append : (c : ℕ) (cs after : List ℕ) → begins_with_line_feed (c ∷ cs) ≡ begins_with_line_feed ((c ∷ cs) ++ after)
begins-append c cs after = refl

begins_more : (cs after : List ℕ) → 0 < length cs → begins_with_line_feed cs ≡ begins_with_line_feed (cs ++ after)
begins_more [] after h = absurd (omega arith)
begins_more (c ∷ cs) after h = refl

some-chars : (text : List ℕ) → IsUtf8 text → 0 < length text → 0 < length (chars text)
some-chars text u h = from (chars text) (omega (arith, ap length (encodes-chars text u)))
  where
    from : (cs : List ℕ) → 0 < length (encodes cs) → 0 < length cs
    from [] l = l
    from (c ∷ cs) l = omega arith

pub begins_here : (more after : List ℕ) → IsUtf8 more → 0 < length more → begins_with_line_feed more ≡ begins_with_line_feed (chars more ++ chars after)
begins_here more after u h = begins-chars more u ∙ begins_more (chars more) (chars after) (some-chars more u h)

behind-wide : (m : Measure) (p : Place) (c : ℕ) (ends : Bool) → ((behind m p c ends).line ≤ p.line + len_utf8 c) × ((behind m p c ends).column ≤ p.column + 8 * len_utf8 c)
behind-wide m p c true = (omega (arith, (len_utf8_bounds c).0), omega arith)
behind-wide m p c false = (omega arith, next_column-wide m p.column c)

pub next_place-wide : (m : Measure) (p : Place) (c : ℕ) (after : List ℕ) → ((next_place m p c after).line ≤ p.line + len_utf8 c) × ((next_place m p c after).column ≤ p.column + 8 * len_utf8 c)
next_place-wide m p c after = behind-wide m p c (ends_line c after)

place_after-wide : (m : Measure) (p : Place) (cs after : List ℕ) → ((place_after m p cs after).line ≤ p.line + length (encodes cs)) × ((place_after m p cs after).column ≤ p.column + 8 * length (encodes cs))
place_after-wide m p [] after = (omega arith, omega arith)
place_after-wide m p (c ∷ cs) after =
    let now = next_place-wide m p c (cs ++ after) in
    let later = place_after-wide m (next_place m p c (cs ++ after)) cs after in (
      omega (arith, now.0, later.0, length-append (encode c) (encodes cs), length-encode c),
      omega (arith, now.1, later.1, length-append (encode c) (encodes cs), length-encode c),
    )

-- how large a place can be
pub place_at-wide : (m : Measure) (text : List ℕ) (offset : ℕ) → IsUtf8 text → IsCharBoundary text offset → ((place_at m text offset).line ≤ offset) × ((place_at m text offset).column ≤ 8 * offset)
place_at-wide m text offset u b =
    let wide = place_after-wide m text_start (chars (take offset text)) (chars (drop offset text)) in
    let all : length (encodes (chars (take offset text))) ≡ offset = ap length (encodes-chars (take offset text) (IsUtf8-take text offset u b)) ∙ length-take-le offset text b.0 in
    (omega (arith, wide.0, all), omega (arith, wide.1, all))

place_after-append : (m : Measure) (p : Place) (xs ys after : List ℕ) → place_after m p (xs ++ ys) after ≡ place_after m (place_after m p xs (ys ++ after)) ys after
place_after-append m p [] ys after = refl
place_after-append m p (x ∷ xs) ys after =
    ap (λ l. place_after m (next_place m p x l) (xs ++ ys) after) (append_assoc xs ys after) ∙ place_after-append m (next_place m p x (xs ++ (ys ++ after))) xs ys after

take-between : (from to : ℕ) (text : List ℕ) → from ≤ to → take to text ≡ take from text ++ take (to - from) (drop from text)
take-between from to text h =
    sym (take-append-drop from (take to text)) ∙ ap (λ l. l ++ drop from (take to text)) (take-take from to text h) ∙ ap (λ n. take from text ++ drop from (take n text)) (let e : to ≡ from + (to - from) = omega arith in e) ∙ ap (λ l. take from text ++ l) (drop-take from (to - from) text)

drop-between : (from to : ℕ) (text : List ℕ) → from ≤ to → drop from text ≡ take (to - from) (drop from text) ++ drop to text
drop-between from to text h =
    sym (take-append-drop (to - from) (drop from text)) ∙ ap (λ l. take (to - from) (drop from text) ++ l) (drop-drop (to - from) from text ∙ ap (λ n. drop n text) (let e : from + (to - from) ≡ to = omega arith in e))

pub place_further : (m : Measure) (text : List ℕ) (from to : ℕ) → IsUtf8 text → IsCharBoundary text from → IsCharBoundary text to → from ≤ to → place_after m (place_at m text from) (chars (take (to - from) (drop from text))) (chars (drop to text)) ≡ place_at m text to
place_further m text from to u a b h =
    let between : List ℕ = take (to - from) (drop from text) in
    let front : chars (take to text) ≡ chars (take from text) ++ chars between = ap chars (take-between from to text h) ∙ chars-append (take from text) between (IsUtf8-take text from u a) in
    let back : chars (drop from text) ≡ chars between ++ chars (drop to text) = ap chars (drop-between from to text h) ∙ chars-append between (drop to text) (IsUtf8-between text from to u h a b) in
    ap (λ l. place_after m (place_after m text_start (chars (take from text)) l) (chars between) (chars (drop to text))) back ∙ sym (place_after-append m text_start (chars (take from text)) (chars between) (chars (drop to text))) ∙ ap (λ l. place_after m text_start l (chars (drop to text))) (sym front)

pub place_turn : (m : Measure) (p : Place) (c : ℕ) (rest more after : List ℕ) → IsUtf8 rest → rest ≡ encode c ++ more → place_after m p (chars rest) (chars after) ≡ place_after m (next_place m p c (chars more ++ chars after)) (chars more) (chars after)
place_turn m p c rest more after u e = ap (λ l. place_after m p l (chars after)) (chars_past_char rest more c u e)

pub place_end : (m : Measure) (p : Place) (rest after : List ℕ) → rest ≡ [] → place_after m p (chars rest) (chars after) ≡ p
place_end m p rest after e = rw (e, chars-nil) refl
