-- The number of modules that a text asks for is the one that it parses to.
use Rattle.std.proofs.Common.{◌≡◌, ◌<◌, ◌≤◌, ◌^◌, ℕ, List, [], ◌∷◌, Bool, true, false, Some, None, Ok, Err, Result, refl, sym, ap, ◌∙◌, subst, arith, length}
use Rattle.std.specs.Prelude.{◌==◌}
use Rattle.std.specs.List.{list_all}
use Rattle.std.specs.Char.{digit_value, is_digit}
use Rattle.std.specs.Str.Parse.{AllDigits, ParsesUnsigned, digits_value, without_leading_plus}
use Rattle.std.proofs.lemmas.Bool.{and_parts, le-leb, leb-true, lt-ltb, ltb-true, ne_eqb}
use Rattle.sany_words.specs.Words.{begins_count, count_in, is_count}

-- ---- digits

digits-pass : (ds : List ℕ) → AllDigits 10 ds → list_all (λ c. is_digit c 10) ds ≡ true
digits-pass [] h = refl
digits-pass (d ∷ ds) h = rw (lt-ltb (digit_value d) 10 h.0) (digits-pass ds h.1)

digits-from : (ds : List ℕ) → list_all (λ c. is_digit c 10) ds ≡ true → AllDigits 10 ds
digits-from [] e = tt
digits-from (d ∷ ds) e = let parts = and_parts _ _ e in (ltb-true _ _ parts.0, digits-from ds parts.1)

-- a text that begins with a digit has no plus before it
no-plus : (text : List ℕ) → begins_count text ≡ true → without_leading_plus text ≡ text
no-plus [] e = cc
no-plus (c ∷ cs) e =
    let least : 49 ≤ c = leb-true _ _ (and_parts _ _ e).0 in
    let plus : (c == 43) ≡ false = ne_eqb c 43 (λ same. omega arith) in
    rw plus refl

some-there : (text : List ℕ) → begins_count text ≡ true → 0 < length text
some-there [] e = cc
some-there (c ∷ cs) e = omega arith

-- ---- numbers

is-count : (text : List ℕ) → begins_count text ≡ true → AllDigits 10 text → digits_value 10 text ≤ 1024 → is_count text ≡ true
is-count text begins digits few = rw (begins, digits-pass text digits, le-leb (digits_value 10 text) 1024 few) refl

pub counted : {E : Type 0} (text : List ℕ) (r : Result ℕ E) (n : ℕ) → begins_count text ≡ true → ParsesUnsigned 16 10 text r → r ≡ Ok n → n ≤ 1024 → Some n ≡ count_in text
counted text (Err e) n begins h is few = cc
counted text (Ok m) n begins h is few =
    let same : m ≡ n = cc in
    let plain = no-plus text begins in
    let digits : AllDigits 10 text = subst (AllDigits 10) plain h.0.0.1 in
    let value : n ≡ digits_value 10 text = sym same ∙ h.1 ∙ ap (digits_value 10) plain in
    let small : digits_value 10 text ≤ 1024 = subst (λ k. k ≤ 1024) value few in
    rw (is-count text begins digits small) (ap (λ k. Some k) value)

-- a text that parses to more, or to no number
pub not-counted : {E : Type 0} (text : List ℕ) (r : Result ℕ E) → begins_count text ≡ true → ParsesUnsigned 16 10 text r → ((n : ℕ) → r ≡ Ok n → n ≤ 1024 → ⊥) → None ≡ count_in text
not-counted {E = E} text r begins h none = by (is_count text) refl
  where
    among : (r : Result ℕ E) → ParsesUnsigned 16 10 text r → AllDigits 10 text → digits_value 10 text ≤ 1024 → ((n : ℕ) → r ≡ Ok n → n ≤ 1024 → ⊥) → ⊥
    among (Ok n) h digits few none = none n refl (subst (λ k. k ≤ 1024) (sym (h.1 ∙ ap (digits_value 10) (no-plus text begins))) few)
    among (Err e) h digits few none = h (subst (λ t. ((0 < length t) × AllDigits 10 t) × (digits_value 10 t < 2 ^ 16)) (sym (no-plus text begins)) ((some-there text begins, digits), omega arith))

    by : (b : Bool) → is_count text ≡ b → None ≡ count_in text
    by false f = rw f refl
    by true t = let parts = and_parts _ _ t in let rest = and_parts _ _ parts.1 in absurd (among r h (digits-from text rest.0) (leb-true _ _ rest.1) none)
