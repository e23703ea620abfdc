-- The last byte of a lexeme is ASCII, so a character begins behind it.
use Rattle.std.proofs.Common.{◌≡◌, ℕ, zero, suc, ◌<◌, ◌≤◌, Bool, true, false, ◌&&◌, ◌||◌, eqb, leb, cond, List, [], ◌∷◌, length, get_or, take, Option, Some, None, refl, sym, subst, ◌∙◌, ⊎_elim, ◌⊎◌, inl, inr, arith}
use Rattle.std.proofs.lemmas.Bool.{cases_Bool, cases_lt, and_parts, and_right, or_from, or_cases, both_ways, eqb-true, lt-leb, ne_eqb, cond-true, cond-false, false_from_ne_true}
use Rattle.std.specs.List.{list_all}
use Rattle.tla_symbols.specs.declared.lexeme.LexKind.{LexKind}
use Rattle.tla_lexeme.specs.declared.class.Class.{Class}
use Rattle.tla_lexeme.specs.declared.class.Class.TheVariants.{WordChar, Digit, Binary, Octal, Hexadecimal, Dash, EqualSign, InLine, Escaped}
use Rattle.tla_lexeme.specs.LexemeSets.{is_in, is_run, is_run_of, is_name, is_number, is_fraction, is_after_backslash, is_based, is_string, closes_string, is_long_run, kind_of}
use Rattle.tla_lexeme.proofs.TableLemmas.{low-none, last}
use Rattle.tla_lexeme.proofs.KindLemmas.{kind-open, open-nothing}

-- ---- classes of ASCII

above : (c high : ℕ) (low : Bool) → 128 ≤ c → high < 128 → (low && leb c high) ≡ false
above c high low h l = and_right low (leb c high) (lt-leb c high (omega arith))

pub word-low : (c : ℕ) → is_in WordChar c ≡ true → c < 128
word-low c h =
    ⊎_elim (λ (lt : c < 128). lt)
    (λ (ge : 128 ≤ c). absurd (both_ways (is_in WordChar c) (or_from _ _ (or_from _ _ (or_from _ _ (above c 57 (leb 48 c) ge (omega arith)) (above c 90 (leb 65 c) ge (omega arith))) (above c 122 (leb 97 c) ge (omega arith))) (ne_eqb c 95 (λ e. omega (arith, e)))) h))
    (cases_lt c 128)

pub digit-low : (c : ℕ) → is_in Digit c ≡ true → c < 128
digit-low c h = ⊎_elim (λ (lt : c < 128). lt) (λ (ge : 128 ≤ c). absurd (both_ways (is_in Digit c) (above c 57 (leb 48 c) ge (omega arith)) h)) (cases_lt c 128)

octal-low : (c : ℕ) → is_in Octal c ≡ true → c < 128
octal-low c h = ⊎_elim (λ (lt : c < 128). lt) (λ (ge : 128 ≤ c). absurd (both_ways (is_in Octal c) (above c 55 (leb 48 c) ge (omega arith)) h)) (cases_lt c 128)

hexadecimal-low : (c : ℕ) → is_in Hexadecimal c ≡ true → c < 128
hexadecimal-low c h =
    ⊎_elim (λ (lt : c < 128). lt)
    (λ (ge : 128 ≤ c). absurd (both_ways (is_in Hexadecimal c) (or_from _ _ (or_from _ _ (above c 57 (leb 48 c) ge (omega arith)) (above c 70 (leb 65 c) ge (omega arith))) (above c 102 (leb 97 c) ge (omega arith))) h))
    (cases_lt c 128)

binary-low : (c : ℕ) → is_in Binary c ≡ true → c < 128
binary-low c h = ⊎_elim (λ (e : eqb c 48 ≡ true). omega (arith, eqb-true c 48 e)) (λ (e : eqb c 49 ≡ true). omega (arith, eqb-true c 49 e)) (or_cases (eqb c 48) (eqb c 49) h)

-- ---- the last byte

last-all : (p : ℕ → Bool) (c : ℕ) (cs : List ℕ) → p c ≡ true → list_all p cs ≡ true → p (last c cs) ≡ true
last-all p c [] h all = h
last-all p c (d ∷ ds) h all = let parts = and_parts (p d) (list_all p ds) all in last-all p d ds parts.0 parts.1

last-run : (class : Class) (c : ℕ) (cs : List ℕ) → is_run class cs ≡ true → is_in class (last c cs) ≡ true
last-run class c [] h = absurd (both_ways false refl h)
last-run class c (d ∷ ds) h = let parts = and_parts (is_in class d) (list_all (is_in class) ds) h in last-all (is_in class) d ds parts.0 parts.1

fraction-rest : (c : ℕ) (cs : List ℕ) → is_fraction (c ∷ cs) ≡ true → (is_run Digit cs ≡ true) ⊎ (is_fraction cs ≡ true)
fraction-rest c cs h =
    ⊎_elim
    (λ (point : eqb c 46 ≡ true). inl (sym (cond-true (eqb c 46) (is_run Digit cs) (is_in Digit c && is_fraction cs) point) ∙ h))
    (λ (other : eqb c 46 ≡ false). inr (and_parts (is_in Digit c) (is_fraction cs) (sym (cond-false (eqb c 46) (is_run Digit cs) (is_in Digit c && is_fraction cs) other) ∙ h)).1)
    (cases_Bool (eqb c 46))

last-fraction : (c : ℕ) (cs : List ℕ) → is_fraction (c ∷ cs) ≡ true → is_in Digit (last c cs) ≡ true
last-fraction c [] h = ⊎_elim (λ (r : is_run Digit [] ≡ true). absurd (both_ways false refl r)) (λ (f : is_fraction [] ≡ true). absurd (both_ways false refl f)) (fraction-rest c [] h)
last-fraction c (d ∷ ds) h = ⊎_elim (λ (r : is_run Digit (d ∷ ds) ≡ true). last-run Digit c (d ∷ ds) r) (λ (f : is_fraction (d ∷ ds) ≡ true). last-fraction d ds f) (fraction-rest c (d ∷ ds) h)

-- the bases
base-low : (x y z : Bool) (c : ℕ) (ds : List ℕ) → is_run_of (cond x (Some Binary) (cond y (Some Octal) (cond z (Some Hexadecimal) None))) ds ≡ true → last c ds < 128
base-low true y z c ds h = binary-low (last c ds) (last-run Binary c ds h)
base-low false true z c ds h = octal-low (last c ds) (last-run Octal c ds h)
base-low false false true c ds h = hexadecimal-low (last c ds) (last-run Hexadecimal c ds h)
base-low false false false c ds h = absurd (both_ways false refl h)

last-after : (c b : ℕ) (ds : List ℕ) → is_after_backslash (b ∷ ds) ≡ true → last c (b ∷ ds) < 128
last-after c b ds h = base-low (eqb b 98 || eqb b 66) (eqb b 111 || eqb b 79) (eqb b 104 || eqb b 72) b ds h

last-based : (c : ℕ) (cs : List ℕ) → is_based (c ∷ cs) ≡ true → last c cs < 128
last-based c [] h = absurd (both_ways false refl (and_parts (eqb c 92) false h).1)
last-based c (b ∷ ds) h = last-after c b ds (and_parts (eqb c 92) (is_after_backslash (b ∷ ds)) h).1

-- a string ends with its quote
last-string : (escaped : Bool) (c : ℕ) (cs : List ℕ) → closes_string escaped (c ∷ cs) ≡ true → last c cs ≡ 34
last-string true c [] h = absurd (both_ways false refl (and_parts (is_in Escaped c) false h).1)
last-string true c (d ∷ ds) h = last-string false d ds (and_parts (is_in Escaped c) (closes_string false (d ∷ ds)) h).1
last-string false c [] h =
    ⊎_elim (λ (quote : eqb c 34 ≡ true). eqb-true c 34 quote)
    (λ (other : eqb c 34 ≡ false). absurd (no_more (eqb c 92) (is_in InLine c) (sym (cond-false (eqb c 34) true (cond (eqb c 92) false (is_in InLine c && false)) other) ∙ h)))
    (cases_Bool (eqb c 34))
  where
    no_more : (b l : Bool) → cond b false (l && false) ≡ true → ⊥
    no_more true l g = both_ways false refl g
    no_more false l g = both_ways false refl (and_parts l false g).1
last-string false c (d ∷ ds) h =
    ⊎_elim (λ (quote : eqb c 34 ≡ true). absurd (both_ways false refl (sym (cond-true (eqb c 34) false (cond (eqb c 92) (closes_string true (d ∷ ds)) (is_in InLine c && closes_string false (d ∷ ds))) quote) ∙ h)))
    (λ (other : eqb c 34 ≡ false).
    let rest : cond (eqb c 92) (closes_string true (d ∷ ds)) (is_in InLine c && closes_string false (d ∷ ds)) ≡ true = sym (cond-false (eqb c 34) false (cond (eqb c 92) (closes_string true (d ∷ ds)) (is_in InLine c && closes_string false (d ∷ ds))) other) ∙ h in
    ⊎_elim
    (λ (escape : eqb c 92 ≡ true). last-string true d ds (sym (cond-true (eqb c 92) (closes_string true (d ∷ ds)) (is_in InLine c && closes_string false (d ∷ ds)) escape) ∙ rest))
    (λ (plain : eqb c 92 ≡ false). last-string false d ds (and_parts (is_in InLine c) (closes_string false (d ∷ ds)) (sym (cond-false (eqb c 92) (closes_string true (d ∷ ds)) (is_in InLine c && closes_string false (d ∷ ds)) plain) ∙ rest)).1)
    (cases_Bool (eqb c 92)))
    (cases_Bool (eqb c 34))

-- ---- members

not_if : (b : Bool) (n : ℕ) → 128 ≤ n → (b ≡ true → n < 128) → b ≡ false
not_if b n high low = false_from_ne_true b (λ yes. let lt = low yes in omega (arith, lt))

last-word : (c : ℕ) (cs : List ℕ) → is_name (c ∷ cs) ≡ true → last c cs < 128
last-word c cs h =
    let all = (and_parts _ _ (and_parts _ _ h).0).0 in
    let parts = and_parts (is_in WordChar c) (list_all (is_in WordChar) cs) all in
    word-low (last c cs) (last-all (is_in WordChar) c cs parts.0 parts.1)

last-number : (c : ℕ) (cs : List ℕ) → is_number (c ∷ cs) ≡ true → last c cs < 128
last-number c cs h =
    ⊎_elim
    (λ (plain : (is_run Digit (c ∷ cs) || is_fraction (c ∷ cs)) ≡ true).
    ⊎_elim (λ (r : is_run Digit (c ∷ cs) ≡ true). let parts = and_parts (is_in Digit c) (list_all (is_in Digit) cs) r in digit-low (last c cs) (last-all (is_in Digit) c cs parts.0 parts.1)) (λ (f : is_fraction (c ∷ cs) ≡ true). digit-low (last c cs) (last-fraction c cs f))
    (or_cases (is_run Digit (c ∷ cs)) (is_fraction (c ∷ cs)) plain))
    (λ (based : is_based (c ∷ cs) ≡ true). last-based c cs based)
    (or_cases (is_run Digit (c ∷ cs) || is_fraction (c ∷ cs)) (is_based (c ∷ cs)) h)

last-long : (class : Class) (k : ℕ) → k < 128 → ((b : ℕ) → is_in class b ≡ true → b ≡ k) → (c : ℕ) (cs : List ℕ) → is_long_run class (c ∷ cs) ≡ true → last c cs < 128
last-long class k low is c cs h =
    let parts = and_parts (is_in class c) (list_all (is_in class) cs) (and_parts (leb 4 (length (c ∷ cs))) (list_all (is_in class) (c ∷ cs)) h).1 in
    omega (arith, is (last c cs) (last-all (is_in class) c cs parts.0 parts.1))

last-quoted : (c : ℕ) (cs : List ℕ) → closes_string false cs ≡ true → last c cs ≡ 34
last-quoted c [] h = absurd (both_ways false refl h)
last-quoted c (d ∷ ds) h = last-string false d ds h

high-none : (c : ℕ) (cs : List ℕ) → 128 ≤ last c cs → kind_of (c ∷ cs) ≡ None
high-none c cs high =
    kind-open (c ∷ cs) (low-none (c ∷ cs) (lt-leb (last c cs) 127 (omega arith))) ∙
    open-nothing (c ∷ cs) (not_if (is_name (c ∷ cs)) (last c cs) high (last-word c cs)) (not_if (is_number (c ∷ cs)) (last c cs) high (last-number c cs))
    (not_if (is_string (c ∷ cs)) (last c cs) high (λ s. let quote = last-quoted c cs (and_parts (eqb c 34) (closes_string false cs) s).1 in omega (arith, quote)))
    (not_if (is_long_run Dash (c ∷ cs)) (last c cs) high (last-long Dash 45 (omega arith) (λ b e. eqb-true b 45 e) c cs))
    (not_if (is_long_run EqualSign (c ∷ cs)) (last c cs) high (last-long EqualSign 61 (omega arith) (λ b e. eqb-true b 61 e) c cs))

-- the last byte of a lexeme is ASCII
pub member-low : (c : ℕ) (cs : List ℕ) (k : LexKind) → kind_of (c ∷ cs) ≡ Some k → last c cs < 128
member-low c cs k h =
    ⊎_elim (λ (lt : last c cs < 128). lt) (λ (ge : 128 ≤ last c cs). absurd (none_some k (sym (high-none c cs ge) ∙ h))) (cases_lt (last c cs) 128)
  where
    none_some : (k : LexKind) → (let o : Option LexKind = None in o) ≡ Some k → ⊥
    none_some k e = cc

pub last-take : (n c : ℕ) (cs : List ℕ) → n ≤ length cs → last c (take n cs) ≡ get_or (c ∷ cs) n 0
last-take zero c cs l = refl
last-take (suc n) c [] l = absurd (omega arith)
last-take (suc n) c (d ∷ ds) l = last-take n d ds (omega arith)

-- the byte before the end of a lexeme that begins a text is ASCII
pub end-low : (n : ℕ) (text : List ℕ) (k : LexKind) → suc n ≤ length text → kind_of (take (suc n) text) ≡ Some k → get_or text n 0 < 128
end-low n [] k l e = absurd (omega arith)
end-low n (c ∷ cs) k l e = subst (λ b. b < 128) (last-take n c cs (omega arith)) (member-low c (take n cs) k e)
