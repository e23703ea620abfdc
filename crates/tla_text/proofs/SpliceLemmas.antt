-- Where the lines start of a text that was spliced: before the piece and behind it they are those of the text before.
use Rattle.std.proofs.Common.{◌≡◌, ℕ, zero, suc, ◌+◌, ◌-◌, ◌<◌, ◌≤◌, ◌^◌, Bool, true, false, cond, List, [], ◌∷◌, ◌++◌, length, get_or, take, drop, map, refl, sym, ap, ◌∙◌, subst, arith, add-zero, zero-add}
use Rattle.std.specs.List.{All}
use Rattle.std.proofs.lemmas.List.{drop-drop, drop_at, take_at}
use Rattle.std.proofs.lemmas.List.Elements.{All-from_get_or}
use Rattle.tla_text.specs.Places.{ends_line, begins_with_line_feed}
use Rattle.tla_text.specs.LineStarts.{starts_after, IsLineOf}
use Rattle.tla_text.proofs.LineLemmas.{starts_after-above}
use Rattle.tla_text.proofs.PlaceLemmas.{line_of_fewer}

-- where lines start behind the ends among the first so many of some bytes
abbrev fronts : ℕ → ℕ → List ℕ → List ℕ
fronts zero at xs = []
fronts (suc k) at [] = []
fronts (suc k) at (x ∷ xs) = cond (ends_line x xs) ((at + 1) ∷ fronts k (at + 1) xs) (fronts k (at + 1) xs)

split-more : (e : Bool) (s : ℕ) (all front back : List ℕ) → all ≡ front ++ back → cond e (s ∷ all) all ≡ cond e (s ∷ front) front ++ back
split-more true s all front back is = ap (λ l. s ∷ l) is
split-more false s all front back is = is

-- those behind the first so many bytes, and those behind the others
starts-split : (k at : ℕ) (xs : List ℕ) → starts_after at xs ≡ fronts k at xs ++ starts_after (at + k) (drop k xs)
starts-split zero at xs = ap (λ n. starts_after n xs) (sym (add-zero at))
starts-split (suc k) at [] = refl
starts-split (suc k) at (x ∷ xs) =
    split-more (ends_line x xs) (at + 1) (starts_after (at + 1) xs) (fronts k (at + 1) xs) (starts_after (at + suc k) (drop k xs))
    (starts-split k (at + 1) xs ∙ ap (λ n. fronts k (at + 1) xs ++ starts_after n (drop k xs)) (let e : at + 1 + k ≡ at + suc k = omega arith in e))

-- each of them lies up to an offset
abbrev AreUpTo : ℕ → List ℕ → Type 0
AreUpTo n ss = (i : ℕ) → i < length ss → get_or ss i 0 ≤ n

-- each of them lies behind it
abbrev AreBehind : ℕ → List ℕ → Type 0
AreBehind n ss = (i : ℕ) → i < length ss → n < get_or ss i 0

up-to-more : (n s : ℕ) (e : Bool) (ss : List ℕ) → s ≤ n → AreUpTo n ss → AreUpTo n (cond e (s ∷ ss) ss)
up-to-more n s true ss low all zero lt = low
up-to-more n s true ss low all (suc i) lt = all i (omega arith)
up-to-more n s false ss low all i lt = all i lt

fronts-up-to : (k at : ℕ) (xs : List ℕ) → AreUpTo (at + k) (fronts k at xs)
fronts-up-to zero at xs i lt = absurd (omega (arith, lt))
fronts-up-to (suc k) at [] i lt = absurd (omega (arith, lt))
fronts-up-to (suc k) at (x ∷ xs) i lt =
    up-to-more (at + suc k) (at + 1) (ends_line x xs) (fronts k (at + 1) xs) (omega arith) (λ j l. let low = fronts-up-to k (at + 1) xs j l in omega (arith, low)) i lt

starts-up-to : (at : ℕ) (xs : List ℕ) → AreUpTo (at + length xs) (starts_after at xs)
starts-up-to at [] i lt = absurd (omega (arith, lt))
starts-up-to at (x ∷ xs) i lt =
    up-to-more (at + suc (length xs)) (at + 1) (ends_line x xs) (starts_after (at + 1) xs) (omega arith) (λ j l. let low = starts-up-to (at + 1) xs j l in omega (arith, low)) i lt

-- as many starts lie up to an offset as lie behind bytes before it
count : (offset k : ℕ) (front back : List ℕ) → AreUpTo offset front → AreBehind offset back → IsLineOf k offset (front ++ back) → length front ≡ k
count offset zero [] back low high of = refl
count offset (suc k) [] back low high of = absurd (let above = high 0 (omega (arith, of.bound)) in omega (arith, above, of.below 0 (omega arith)))
count offset zero (s ∷ front) back low high of = absurd (let here = low 0 (omega arith) in omega (arith, here, of.above 0 (omega arith) (omega arith)))
count offset (suc k) (s ∷ front) back low high of = ap suc (count offset k front back (λ i l. low (suc i) (omega arith)) high (line_of_fewer k offset s (front ++ back) of))

module _ (text : List ℕ) (offset line : ℕ) (of : IsLineOf line offset (starts_after 0 text)) where
  split : starts_after 0 text ≡ fronts offset 0 text ++ starts_after offset (drop offset text)
  split = starts-split offset 0 text ∙ ap (λ n. fronts offset 0 text ++ starts_after n (drop offset text)) (zero-add offset)

  many : length (fronts offset 0 text) ≡ line
  many =
      count offset line (fronts offset 0 text) (starts_after offset (drop offset text)) (subst (λ n. AreUpTo n (fronts offset 0 text)) (zero-add offset) (fronts-up-to offset 0 text)) (starts_after-above offset (drop offset text))
      (subst (λ (ss : List ℕ). IsLineOf line offset ss) split of)

  -- the starts up to an offset, and those behind it
  starts-before : take line (starts_after 0 text) ≡ fronts offset 0 text
  starts-before = ap (take line) split ∙ take_at (fronts offset 0 text) (starts_after offset (drop offset text)) line many

  pub starts-behind : drop line (starts_after 0 text) ≡ starts_after offset (drop offset text)
  starts-behind = ap (drop line) split ∙ drop_at (fronts offset 0 text) (starts_after offset (drop offset text)) line many

-- ---- bytes that begin alike

begins-alike : (k : ℕ) (xs ys : List ℕ) → take (suc k) xs ≡ take (suc k) ys → begins_with_line_feed xs ≡ begins_with_line_feed ys
begins-alike k [] [] same = refl
begins-alike k [] (y ∷ ys) same = cc
begins-alike k (x ∷ xs) [] same = cc
begins-alike k (x ∷ xs) (y ∷ ys) same = let e : x ≡ y = cc in rw e refl

-- whether a byte ends a line hangs on the next one, too
fronts-alike : (k at : ℕ) (xs ys : List ℕ) → take (suc k) xs ≡ take (suc k) ys → fronts k at xs ≡ fronts k at ys
fronts-alike zero at xs ys same = refl
fronts-alike (suc k) at [] [] same = refl
fronts-alike (suc k) at [] (y ∷ ys) same = cc
fronts-alike (suc k) at (x ∷ xs) [] same = cc
fronts-alike (suc k) at (x ∷ xs) (y ∷ ys) same =
    let e : x ≡ y = cc in
    let rest : take (suc k) xs ≡ take (suc k) ys = cc in
    rw (e, begins-alike k xs ys rest, fronts-alike k (at + 1) xs ys rest) refl

-- the starts before a piece that stands at this offset, of both texts
pub kept : (start first line : ℕ) (text made : List ℕ) → first ≡ start - 1 → take start made ≡ take start text → IsLineOf line first (starts_after 0 text) → take line (starts_after 0 text) ++ starts_after first (drop first made) ≡ starts_after 0 made
kept zero first line text made is same of = rw is at_start
  where
    at_start : take line (starts_after 0 text) ++ starts_after 0 made ≡ starts_after 0 made
    at_start = ap (λ l. l ++ starts_after 0 made) (starts-before text 0 line (subst (λ n. IsLineOf line n (starts_after 0 text)) is of))
kept (suc k) first line text made is same of =
    let here : first ≡ k = omega (arith, is) in
    ap (λ l. l ++ starts_after first (drop first made)) (starts-before text first line of ∙ fronts-alike first 0 text made (rw here (sym same))) ∙ sym (starts-split first 0 made ∙ ap (λ n. fronts first 0 made ++ starts_after n (drop first made)) (zero-add first))

-- ---- looking for line ends

none-before : (to : ℕ) (front back : List ℕ) → AreUpTo to front → AreBehind to (front ++ back) → front ≡ []
none-before to [] back low high = refl
none-before to (s ∷ front) back low high = absurd (let here = low 0 (omega arith) in let there = high 0 (omega arith) in omega (arith, here, there))

-- where no line starts up to an offset, the starts are those behind it
starts-passed : (at to : ℕ) (xs : List ℕ) → at ≤ to → AreBehind to (starts_after at xs) → starts_after at xs ≡ starts_after to (drop (to - at) xs)
starts-passed at to xs le high =
    let k : ℕ = to - at in
    let there : at + k ≡ to = omega arith in
    let split = starts-split k at xs in
    let none : fronts k at xs ≡ [] = none-before to (fronts k at xs) (starts_after (at + k) (drop k xs)) (subst (λ n. AreUpTo n (fronts k at xs)) there (fronts-up-to k at xs)) (subst (AreBehind to) split high) in
    split ∙ ap (λ l. l ++ starts_after (at + k) (drop k xs)) none ∙ ap (λ n. starts_after n (drop k xs)) there

-- the same behind a place of the whole text
pub passed : (at to : ℕ) (text rest : List ℕ) → at ≤ to → rest ≡ drop at text → AreBehind to (starts_after at rest) → starts_after at rest ≡ starts_after to (drop to text)
passed at to text rest le is high =
    starts-passed at to rest le high ∙ ap (starts_after to) (ap (drop (to - at)) is ∙ drop-drop (to - at) at text ∙ ap (λ n. drop n text) (let e : at + (to - at) ≡ to = omega arith in e))

-- no line starts where none is found
pub passed-all : (at to : ℕ) (text rest : List ℕ) → at ≤ to → rest ≡ drop at text → starts_after at rest ≡ [] → starts_after at rest ≡ starts_after to (drop to text)
passed-all at to text rest le is none = passed at to text rest le is (λ i lt. absurd (let no = ap length none in omega (arith, lt, no)))

-- nor one up to an offset, where the next byte that may end a line stands behind it
pub passed-far : (at to before byte : ℕ) (text rest after : List ℕ) → at ≤ to → rest ≡ drop at text → starts_after at rest ≡ starts_after (at + before) (byte ∷ after) → to < at + before + 1 → starts_after at rest ≡ starts_after to (drop to text)
passed-far at to before byte text rest after le is next far =
    passed at to text rest le is (λ i lt. subst (λ (ss : List ℕ). i < length ss → to < get_or ss i 0) (sym next) (λ l. let high = starts_after-above (at + before) (byte ∷ after) i l in omega (arith, high)) lt)

-- ---- moving

moved-more : (e : Bool) (f : ℕ → ℕ) (s t : ℕ) (ss ts : List ℕ) → f s ≡ t → map f ss ≡ ts → map f (cond e (s ∷ ss) ss) ≡ cond e (t ∷ ts) ts
moved-more true f s t ss ts one more = rw (one, more) refl
moved-more false f s t ss ts one more = more

moved-on : (from to d : ℕ) (xs : List ℕ) → map (λ s. s - from + to) (starts_after (from + d) xs) ≡ starts_after (to + d) xs
moved-on from to d [] = refl
moved-on from to d (x ∷ xs) =
    let more = moved-on from to (d + 1) xs in
    let here : from + (d + 1) ≡ from + d + 1 = omega arith in
    let there : to + (d + 1) ≡ to + d + 1 = omega arith in
    moved-more (ends_line x xs) (λ s. s - from + to) (from + d + 1) (to + d + 1) (starts_after (from + d + 1) xs) (starts_after (to + d + 1) xs) (omega arith)
    (subst (λ n. map (λ s. s - from + to) (starts_after n xs) ≡ starts_after (to + d + 1) xs) here (subst (λ n. map (λ s. s - from + to) (starts_after (from + (d + 1)) xs) ≡ starts_after n xs) there more))

-- line starts are as far from the front of the bytes wherever that stands
pub moved : (from to : ℕ) (xs : List ℕ) → map (λ s. s - from + to) (starts_after from xs) ≡ starts_after to xs
moved from to xs =
    subst (λ n. map (λ s. s - from + to) (starts_after n xs) ≡ starts_after to xs) (add-zero from) (subst (λ n. map (λ s. s - from + to) (starts_after (from + 0) xs) ≡ starts_after n xs) (add-zero to) (moved-on from to 0 xs))

pub starts-above : (at : ℕ) (xs : List ℕ) → All (λ s. at ≤ s) (starts_after at xs)
starts-above at xs = All-from_get_or (λ s. at ≤ s) (starts_after at xs) 0 (λ i lt. let high = starts_after-above at xs i lt in omega (arith, high))

pub moved-small : (from to : ℕ) (xs : List ℕ) → to + length xs < 2 ^ 32 → All (λ s. s - from + to < 2 ^ 32) (starts_after from xs)
moved-small from to xs small = All-from_get_or (λ s. s - from + to < 2 ^ 32) (starts_after from xs) 0 (λ i lt. let low = starts-up-to from xs i lt in let high = starts_after-above from xs i lt in omega (arith, low, high, small))
