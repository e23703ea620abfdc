-- The first header, by a search for four dashes.
use Rattle.std.proofs.Common.{◌≡◌, ℕ, zero, suc, ◌+◌, ◌<◌, ◌≤◌, Bool, true, false, leb, List, [], ◌∷◌, length, get_or, drop, slice_index, codes, Option, Some, None, refl, sym, ap, ◌∙◌, subst, ⊎_elim, arith, length-drop, add-zero}
use Rattle.std.proofs.lemmas.Bool.{cases_Bool, and_parts, and_from, both_ways, eqb-true, eq-eqb, leb-true, le-leb, cond-true, cond-false, false_from_ne_true}
use Rattle.std.proofs.lemmas.List.{get_or-drop, drop-drop, drop_all}
use Rattle.std.proofs.lemmas.List.Sums.{prefix_len_passes}
use Rattle.std.proofs.lemmas.Str.{IsCharBoundary-before_ascii}
use Rattle.std.specs.Str.{IsCharBoundary}
use Rattle.std.specs.List.{prefix_len}
use Rattle.memchr.specs.Find.{OccursAt, Nowhere}
use Rattle.tla_lexeme.specs.declared.class.Class.TheVariants.{Dash, Space}
use Rattle.tla_lexeme.specs.LexemeSets.{is_in}
use Rattle.tla_lexeme.specs.ModulePart.{begins_with_header, begins_with_module, behind, header_from}
use Rattle.tla_lexeme.proofs.SetLemmas.{prefix-le}

abbrev dashes : List ℕ → ℕ
dashes text = prefix_len (is_in Dash) text

-- ---- places at which no header begins

pub header_from-skip : (n at : ℕ) (xs : List ℕ) → n ≤ length xs → ((k : ℕ) → k < n → begins_with_header (drop k xs) ≡ false) → header_from at xs ≡ header_from (at + n) (drop n xs)
header_from-skip zero at xs l none = ap (λ i. header_from i xs) (sym (add-zero at))
header_from-skip (suc n) at [] l none = absurd (omega arith)
header_from-skip (suc n) at (c ∷ cs) l none =
    cond-false (begins_with_header (c ∷ cs)) (Some at) (header_from (at + 1) cs) (none 0 (omega arith)) ∙ header_from-skip n (at + 1) cs (omega arith) (λ k lt. none (suc k) (omega arith)) ∙ ap (λ i. header_from i (drop n cs)) (let e : at + 1 + n ≡ at + suc n = omega arith in e)

pub header_from-here : (at : ℕ) (xs : List ℕ) → begins_with_header xs ≡ true → header_from at xs ≡ Some at
header_from-here at [] h = absurd (both_ways false refl h)
header_from-here at (c ∷ cs) h = cond-true (begins_with_header (c ∷ cs)) (Some at) (header_from (at + 1) cs) h

-- ---- a header begins with four dashes

four_dashes : (j : ℕ) → j < 4 → slice_index (codes "----") j ≡ 45
four_dashes zero h = refl
four_dashes (suc zero) h = refl
four_dashes (suc (suc zero)) h = refl
four_dashes (suc (suc (suc zero))) h = refl
four_dashes (suc (suc (suc (suc j)))) h = absurd (omega arith)

header-dashes : (xs : List ℕ) → begins_with_header xs ≡ true → 4 ≤ dashes xs
header-dashes xs h = leb-true 4 (dashes xs) (and_parts (leb 4 (dashes xs)) (begins_with_module (behind (is_in Space) (behind (is_in Dash) xs))) h).0

header-occurs : (hay : List ℕ) (k : ℕ) → begins_with_header (drop k hay) ≡ true → OccursAt hay (codes "----") k
header-occurs hay k h =
    let four = header-dashes (drop k hay) h in
    let le = prefix-le (is_in Dash) (drop k hay) in record {
      fits = omega (arith, four, le, length-drop k hay);
      reads = λ j l. sym (get_or-drop k hay j 0) ∙ eqb-true (get_or (drop k hay) j 0) 45 (prefix_len_passes (is_in Dash) (drop k hay) j 0 (omega (arith, four))) ∙ sym (four_dashes j l);
    }

-- before the place that a search finds, no header begins
none_before : (hay : List ℕ) (n : ℕ) → Nowhere (OccursAt hay (codes "----")) 0 n → (k : ℕ) → k < n → begins_with_header (drop k hay) ≡ false
none_before hay n nowhere k lt = false_from_ne_true (begins_with_header (drop k hay)) (λ yes. nowhere k (omega arith) lt (header-occurs hay k yes))

pub header_from-found : (at n : ℕ) (hay : List ℕ) → n ≤ length hay → Nowhere (OccursAt hay (codes "----")) 0 n → header_from at hay ≡ header_from (at + n) (drop n hay)
header_from-found at n hay l nowhere = header_from-skip n at hay l (none_before hay n nowhere)

pub header_from-none : (at : ℕ) (hay : List ℕ) → Nowhere (OccursAt hay (codes "----")) 0 (length hay + 1) → header_from at hay ≡ None
header_from-none at hay nowhere =
    header_from-skip (length hay) at hay (omega arith) (λ k lt. none_before hay (length hay + 1) nowhere k (omega arith)) ∙ ap (λ l. header_from (at + length hay) l) (drop_all (length hay) hay (omega arith))

-- ---- within a run of dashes

pub prefix-drop : (p : ℕ → Bool) (k : ℕ) (xs : List ℕ) → k ≤ prefix_len p xs → prefix_len p xs ≡ k + prefix_len p (drop k xs)
prefix-drop p zero xs l = omega arith
prefix-drop p (suc k) [] l = absurd (omega arith)
prefix-drop p (suc k) (x ∷ xs) l =
    ⊎_elim
    (λ (yes : p x ≡ true). let shape : prefix_len p (x ∷ xs) ≡ 1 + prefix_len p xs = cond-true (p x) (1 + prefix_len p xs) 0 yes in let more = prefix-drop p k xs (omega (arith, shape)) in omega (arith, shape, more))
    (λ (no_one : p x ≡ false). absurd (let shape : prefix_len p (x ∷ xs) ≡ 0 = cond-false (p x) (1 + prefix_len p xs) 0 no_one in omega (arith, shape)))
    (cases_Bool (p x))

-- a header that begins within a run begins at the run too
header-run : (k : ℕ) (xs : List ℕ) → k ≤ dashes xs → begins_with_header (drop k xs) ≡ true → begins_with_header xs ≡ true
header-run k xs l h =
    let parts = and_parts (leb 4 (dashes (drop k xs))) (begins_with_module (behind (is_in Space) (behind (is_in Dash) (drop k xs)))) h in
    let split = prefix-drop (is_in Dash) k xs l in
    let same : behind (is_in Dash) (drop k xs) ≡ behind (is_in Dash) xs = drop-drop (dashes (drop k xs)) k xs ∙ ap (λ n. drop n xs) (sym split) in
    and_from (leb 4 (dashes xs)) (begins_with_module (behind (is_in Space) (behind (is_in Dash) xs))) (le-leb 4 (dashes xs) (omega (arith, leb-true 4 (dashes (drop k xs)) parts.0, split))) (ap (λ t. begins_with_module (behind (is_in Space) t)) (sym same) ∙ parts.1)

pub header_from-run : (at : ℕ) (xs : List ℕ) → begins_with_header xs ≡ false → header_from at xs ≡ header_from (at + dashes xs) (drop (dashes xs) xs)
header_from-run at xs h = header_from-skip (dashes xs) at xs (prefix-le (is_in Dash) xs) (λ k lt. false_from_ne_true (begins_with_header (drop k xs)) (λ yes. both_ways (begins_with_header xs) h (header-run k xs (omega arith) yes)))

some_dashes : (xs : List ℕ) → 0 < length xs → get_or xs 0 0 ≡ 45 → 0 < dashes xs
some_dashes [] l e = absurd (omega arith)
some_dashes (c ∷ cs) l e = let shape : dashes (c ∷ cs) ≡ 1 + dashes cs = cond-true (is_in Dash c) (1 + dashes cs) 0 (eq-eqb c 45 e) in omega (arith, shape)

pub found_dashes : (hay : List ℕ) (k : ℕ) → OccursAt hay (codes "----") k → 0 < dashes (drop k hay)
found_dashes hay k h = some_dashes (drop k hay) (omega (arith, h.fits, length-drop k hay)) (get_or-drop k hay 0 0 ∙ h.reads 0 (omega arith))

-- ---- turns of the loop

pub header_turn : (at before n : ℕ) (rest candidate after : List ℕ) → before ≤ length rest → Nowhere (OccursAt rest (codes "----")) 0 before → candidate ≡ drop before rest → begins_with_header candidate ≡ false → n ≡ dashes candidate → after ≡ drop n candidate → header_from (at + before + n) after ≡ header_from at rest
header_turn at before n rest candidate after le nowhere iscandidate h isn isafter =
    ap (λ l. header_from (at + before + n) l) isafter ∙ ap (λ i. header_from (at + before + i) (drop i candidate)) isn ∙ sym (header_from-run (at + before) candidate h) ∙ ap (λ l. header_from (at + before) l) iscandidate ∙ sym (header_from-found at before rest le nowhere)

pub header_found : (at before : ℕ) (rest candidate : List ℕ) → before ≤ length rest → Nowhere (OccursAt rest (codes "----")) 0 before → candidate ≡ drop before rest → begins_with_header candidate ≡ true → Some (at + before) ≡ header_from at rest
header_found at before rest candidate le nowhere iscandidate h =
    sym (header_from-found at before rest le nowhere ∙ header_from-here (at + before) (drop before rest) (subst (λ l. begins_with_header l ≡ true) iscandidate h))

-- ---- where the header is

record IsHeader (at n : ℕ) (xs : List ℕ) : Type 0 where
  pub passed : ℕ
  pub place : n ≡ at + passed
  pub inside : passed < length xs
  pub is : begins_with_header (drop passed xs) ≡ true

header_is : (at n : ℕ) (xs : List ℕ) → header_from at xs ≡ Some n → IsHeader at n xs
header_is at n [] h = absurd (none_some n h)
  where
    none_some : (n : ℕ) → (let o : Option ℕ = None in o) ≡ Some n → ⊥
    none_some n e = cc
header_is at n (c ∷ cs) h =
    ⊎_elim
    (λ (yes : begins_with_header (c ∷ cs) ≡ true). record { passed = 0; place = here n (sym (cond-true (begins_with_header (c ∷ cs)) (Some at) (header_from (at + 1) cs) yes) ∙ h); inside = omega arith; is = yes })
    (λ (later : begins_with_header (c ∷ cs) ≡ false).
    let more = header_is (at + 1) n cs (sym (cond-false (begins_with_header (c ∷ cs)) (Some at) (header_from (at + 1) cs) later) ∙ h) in record {
      passed = suc more.passed;
      place = omega (arith, more.place);
      inside = omega (arith, more.inside);
      is = more.is;
    })
    (cases_Bool (begins_with_header (c ∷ cs)))
  where
    some_same : (a b : ℕ) → (let o : Option ℕ = Some a in o) ≡ Some b → a ≡ b
    some_same a b e = cc

    here : (n : ℕ) → (let o : Option ℕ = Some at in o) ≡ Some n → n ≡ at + 0
    here n e = let same = some_same at n e in omega (arith, same)

-- a header begins at a character
pub header_cut : (text : List ℕ) (at : ℕ) → header_from 0 text ≡ Some at → IsCharBoundary text at
header_cut text at h =
    let is = header_is 0 at text h in
    let place : at ≡ is.passed = omega (arith, is.place) in
    let occurs = header-occurs text is.passed is.is in
    let dash : get_or text is.passed 0 ≡ 45 = ap (λ n. get_or text n 0) (sym (add-zero is.passed)) ∙ occurs.reads 0 (omega arith) in
    subst (λ n. IsCharBoundary text n) (sym place) (IsCharBoundary-before_ascii text is.passed is.inside (subst (λ b. b < 128) (sym dash) (omega arith)))
