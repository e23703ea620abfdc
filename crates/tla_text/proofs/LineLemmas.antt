-- Where lines start: in bytes, and in the characters that they are.
use Rattle.std.proofs.Common.{◌≡◌, ℕ, zero, suc, ◌+◌, ◌-◌, ◌<◌, ◌≤◌, Bool, true, false, not, ◌&&◌, ◌||◌, eqb, cond, List, [], ◌∷◌, ◌++◌, length, get_or, take, drop, refl, sym, ap, ◌∙◌, ⊎_elim, arith, add-zero, append_assoc}
use Rattle.std.proofs.Math.Utf8.{encode, encodes}
use Rattle.std.proofs.lemmas.Bool.{ne_eqb, cases_lt, or_parts, false_from_ne_true}
use Rattle.std.proofs.lemmas.Str.{encode_ascii, byte_from_char, inside_one, length-encode, len_utf8_bounds}
use Rattle.std.proofs.lemmas.List.{get_or_default, get_or-take, length-take-le, take-append-drop, drop_all, drop_more, take_rest}
use Rattle.memchr.specs.Find.{Nowhere, Passes, is_byte2}
use Rattle.std.specs.List.Sorted.{IsNonDecreasingBy}
use Rattle.tla_text.specs.Places.{ends_line, begins_with_line_feed}
use Rattle.tla_text.specs.LineStarts.{starts_after}

-- a byte that is in no line end
abbrev pub is_line_byte : ℕ → Bool
is_line_byte b = eqb b 10 || eqb b 13

-- no line starts behind such bytes
pub starts_after-skip : (at : ℕ) (xs bs : List ℕ) → ((k : ℕ) → k < length xs → is_line_byte (get_or xs k 0) ≡ false) → starts_after at (xs ++ bs) ≡ starts_after (at + length xs) bs
starts_after-skip at [] bs h = ap (λ n. starts_after n bs) (sym (add-zero at))
starts_after-skip at (x ∷ xs) bs h =
    let parts = or_parts (eqb x 10) (eqb x 13) (h 0 (omega arith)) in
    rw (parts.0, parts.1) (starts_after-skip (at + 1) xs bs (λ k l. h (suc k) (omega arith)) ∙ ap (λ n. starts_after n bs) (let e : at + 1 + length xs ≡ at + suc (length xs) = omega arith in e))

-- the bytes of a character that is not ASCII are in no line end
wide-bytes : (c : ℕ) → 128 ≤ c → (k : ℕ) → k < length (encode c) → is_line_byte (get_or (encode c) k 0) ≡ false
wide-bytes c wide k l =
    ⊎_elim
    (λ (low : get_or (encode c) k 0 < 128). absurd (let e = inside_one c [] (encode c) k (sym (append-nil-of (encode c))) l low in omega (arith, e)))
    (λ (high : 128 ≤ get_or (encode c) k 0).
    let n10 = ne_eqb (get_or (encode c) k 0) 10 (λ e. omega (arith, e)) in
    let n13 = ne_eqb (get_or (encode c) k 0) 13 (λ e. omega (arith, e)) in
    rw (n10, n13) refl)
    (cases_lt (get_or (encode c) k 0) 128)
  where
    append-nil-of : (xs : List ℕ) → xs ++ [] ≡ xs
    append-nil-of [] = refl
    append-nil-of (x ∷ xs) = ap (λ l. x ∷ l) (append-nil-of xs)

first-is : (xs : List ℕ) → begins_with_line_feed xs ≡ eqb (get_or xs 0 0) 10
first-is [] = refl
first-is (x ∷ xs) = refl

-- a text begins with the byte of a line feed where it begins with the character
first-byte : (d : ℕ) (rest : List ℕ) → eqb (get_or (encode d ++ rest) 0 0) 10 ≡ eqb d 10
first-byte d rest =
    ⊎_elim
    (λ (low : d < 128). ap (λ b. eqb b 10) (byte_from_char (encode d ++ rest) rest d refl low))
    (λ (high : 128 ≤ d). ne_eqb (get_or (encode d ++ rest) 0 0) 10 (λ e. let same = inside_one d rest (encode d ++ rest) 0 refl (omega (arith, length-encode d, (len_utf8_bounds d).0)) (omega (arith, e)) in omega (arith, same, e)) ∙ sym (ne_eqb d 10 (λ e. omega (arith, e))))
    (cases_lt d 128)

pub begins-same : (cs : List ℕ) → begins_with_line_feed (encodes cs) ≡ begins_with_line_feed cs
begins-same [] = refl
begins-same (d ∷ ds) = first-is (encode d ++ encodes ds) ∙ first-byte d (encodes ds)

ends-same : (c : ℕ) (cs : List ℕ) → ends_line c (encodes cs) ≡ ends_line c cs
ends-same c cs = ap (λ b. eqb c 10 || (eqb c 13 && not b)) (begins-same cs)

wide-ends : (c : ℕ) (cs : List ℕ) → 128 ≤ c → ends_line c cs ≡ false
wide-ends c cs h =
    let n10 = ne_eqb c 10 (λ e. omega (arith, e)) in
    let n13 = ne_eqb c 13 (λ e. omega (arith, e)) in
    rw (n10, n13) refl

-- what a first character does to the line starts
pub starts_after-char : (at c : ℕ) (cs : List ℕ) → starts_after at (encodes (c ∷ cs)) ≡ cond (ends_line c cs) ((at + length (encode c)) ∷ starts_after (at + length (encode c)) (encodes cs)) (starts_after (at + length (encode c)) (encodes cs))
starts_after-char at c cs =
    ⊎_elim
    (λ (low : c < 128). rw (encode_ascii c low, ends-same c cs) refl)
    (λ (high : 128 ≤ c). rw (wide-ends c cs high) (starts_after-skip at (encode c) (encodes cs) (wide-bytes c high)))
    (cases_lt c 128)

-- each line start lies behind the place where the bytes begin, and they rise
IsAbove : ℕ → List ℕ → Type 0
IsAbove at ss = (i : ℕ) → i < length ss → at < get_or ss i 0

above_more : (at : ℕ) (e : Bool) (ss : List ℕ) → IsAbove (at + 1) ss → IsAbove at (cond e ((at + 1) ∷ ss) ss)
unfolding IsAbove
above_more at true ss h zero l = omega arith
above_more at true ss h (suc i) l = let more = h i (omega arith) in omega arith
above_more at false ss h i l = let more = h i l in omega arith

starts-above : (at : ℕ) (bs : List ℕ) → IsAbove at (starts_after at bs)
unfolding IsAbove
starts-above at [] i h = absurd (omega arith)
starts-above at (b ∷ bs) i h = above_more at (ends_line b bs) (starts_after (at + 1) bs) (starts-above (at + 1) bs) i h

pub starts_after-above : (at : ℕ) (bs : List ℕ) (i : ℕ) → i < length (starts_after at bs) → at < get_or (starts_after at bs) i 0
unfolding IsAbove
starts_after-above at bs i h = starts-above at bs i h

rises_more : (at : ℕ) (e : Bool) (ss : List ℕ) → IsAbove (at + 1) ss → IsNonDecreasingBy (λ s. s) ss → IsNonDecreasingBy (λ s. s) (cond e ((at + 1) ∷ ss) ss)
unfolding IsAbove
rises_more at true ss above h zero zero d l m = omega arith
rises_more at true ss above h zero (suc j) d l m = let more = above j (omega arith) in let e = get_or_default ss j d 0 (omega arith) in omega (arith, e)
rises_more at true ss above h (suc i) zero d l m = absurd (omega arith)
rises_more at true ss above h (suc i) (suc j) d l m = h i j d (omega arith) (omega arith)
rises_more at false ss above h i j d l m = h i j d l m

pub starts_after-rise : (at : ℕ) (bs : List ℕ) → IsNonDecreasingBy (λ s. s) (starts_after at bs)
starts_after-rise at [] i j d l m = absurd (omega arith)
starts_after-rise at (b ∷ bs) i j d l m = rises_more at (ends_line b bs) (starts_after (at + 1) bs) (starts-above (at + 1) bs) (starts_after-rise (at + 1) bs) i j d l m

fewer_more : (e : Bool) (at n : ℕ) (ss : List ℕ) → length ss ≤ n → length (cond e (at ∷ ss) ss) ≤ n + 1
fewer_more true at n ss h = omega arith
fewer_more false at n ss h = omega arith

-- there are no more line starts than bytes
pub length-starts_after : (at : ℕ) (bs : List ℕ) → length (starts_after at bs) ≤ length bs
length-starts_after at [] = omega arith
length-starts_after at (b ∷ bs) = let h = fewer_more (ends_line b bs) (at + 1) (length bs) (starts_after (at + 1) bs) (length-starts_after (at + 1) bs) in omega (arith, h)

no_line_byte : (b : ℕ) → ¬ (is_byte2 10 13 b ≡ true) → is_line_byte b ≡ false
no_line_byte b h = false_from_ne_true (is_line_byte b) h

-- up to a place, no byte is in a line end
pub starts_after-from : (at place : ℕ) (text : List ℕ) → place ≤ length text → Nowhere (Passes (is_byte2 10 13) text) 0 place → starts_after at text ≡ starts_after (at + place) (drop place text)
starts_after-from at place text le none =
    let here : length (take place text) ≡ place = length-take-le place text le in
    ap (λ l. starts_after at l) (sym (take-append-drop place text)) ∙ starts_after-skip at (take place text) (drop place text) (λ k l. let e = get_or-take place text k 0 (omega (arith, here)) in rw e (no_line_byte (get_or text k 0) (none k (omega arith) (omega (arith, here))))) ∙ ap (λ n. starts_after (at + n) (drop place text)) here

pub starts_after-none : (at : ℕ) (text : List ℕ) → Nowhere (Passes (is_byte2 10 13) text) 0 (length text) → starts_after at text ≡ []
starts_after-none at text none = starts_after-from at (length text) text (omega arith) none ∙ ap (λ l. starts_after (at + length text) l) (drop_all (length text) text (omega arith))

-- a turn of the loop that collects line starts
pub starts_turn : (e : Bool) (found all : List ℕ) (at before byte : ℕ) (rest after : List ℕ) → ends_line byte after ≡ e → starts_after at rest ≡ starts_after (at + before) (byte ∷ after) → found ++ starts_after at rest ≡ all →
    (found ++ cond e ((at + (before + 1)) ∷ []) []) ++ starts_after (at + (before + 1)) after ≡ all
starts_turn true found all at before byte rest after ends turn inv =
    append_assoc found ((at + (before + 1)) ∷ []) (starts_after (at + (before + 1)) after) ∙ ap (λ l. found ++ l) (rw (turn, ends) (ap (λ n. n ∷ starts_after n after) (let e : at + (before + 1) ≡ at + before + 1 = omega arith in e))) ∙ inv
starts_turn false found all at before byte rest after ends turn inv =
    append_assoc found [] (starts_after (at + (before + 1)) after) ∙ ap (λ l. found ++ l) (rw (turn, ends) (ap (λ n. starts_after n after) (let e : at + (before + 1) ≡ at + before + 1 = omega arith in e))) ∙ inv

-- the first byte that is in a line end
pub starts_after-found : (place : ℕ) (text : List ℕ) → place < length text → Nowhere (Passes (is_byte2 10 13) text) 0 place → (at : ℕ) → starts_after at text ≡ starts_after (at + place) (get_or text place 0 ∷ take (length text - (place + 1)) (drop (place + 1) text))
starts_after-found place text lt none at = starts_after-from at place text (omega arith) none ∙ ap (λ l. starts_after (at + place) l) (drop_more text place 0 lt ∙ ap (λ l. get_or text place 0 ∷ l) (sym (take_rest text (place + 1))))
