-- How long the members of each set are that begin a text.
use Rattle.std.proofs.Common.{◌≡◌, ℕ, zero, suc, ◌+◌, ◌<◌, ◌≤◌, Bool, true, false, ◌&&◌, eqb, leb, ltb, cond, min, List, [], ◌∷◌, length, take, drop, Option, Some, None, refl, sym, ap, ◌∙◌, subst, ⊎_elim, arith}
use Rattle.std.proofs.lemmas.Bool.{cases_Bool, cases_lt, and_parts, and_from, or_parts, or_from, both_ways, eqb-true, leb-true, lt-ltb, le-ltb, le-leb, lt-leb, cond-true, cond-false, false_from_ne_true}
use Rattle.std.specs.List.{list_all, list_any, prefix_len}
use Rattle.tla_lexeme.specs.declared.class.Class.{Class}
use Rattle.tla_lexeme.specs.declared.class.Class.TheVariants.{Digit}
use Rattle.tla_lexeme.specs.LexemeSets.{is_in, is_run, is_run_of, base_of, is_fraction, is_after_backslash, is_based, is_long_run}
use Rattle.tla_lexeme.specs.Lengths.{fraction_len, with_one, base_len, after_backslash_len, based_len, long_run_len}

-- ---- beginnings of a text

-- bytes of a text's prefix that all pass a test are at the prefix of those that pass
pub all-le : (p : ℕ → Bool) (m : ℕ) (xs : List ℕ) → m ≤ length xs → list_all p (take m xs) ≡ true → m ≤ prefix_len p xs
all-le p zero xs l h = omega arith
all-le p (suc m) [] l h = absurd (omega arith)
all-le p (suc m) (x ∷ xs) l h =
    let parts = and_parts (p x) (list_all p (take m xs)) h in
    let more = all-le p m xs (omega arith) parts.1 in
    let shape : prefix_len p (x ∷ xs) ≡ 1 + prefix_len p xs = cond-true (p x) (1 + prefix_len p xs) 0 parts.0 in
    omega (arith, more, shape)

pub all-prefix : (p : ℕ → Bool) (n : ℕ) (xs : List ℕ) → n ≤ prefix_len p xs → list_all p (take n xs) ≡ true
all-prefix p zero xs h = refl
all-prefix p (suc n) [] h = refl
all-prefix p (suc n) (x ∷ xs) h =
    ⊎_elim
    (λ (yes : p x ≡ true). let shape : prefix_len p (x ∷ xs) ≡ 1 + prefix_len p xs = cond-true (p x) (1 + prefix_len p xs) 0 yes in and_from (p x) (list_all p (take n xs)) yes (all-prefix p n xs (omega (arith, shape))))
    (λ (no : p x ≡ false). absurd (let shape : prefix_len p (x ∷ xs) ≡ 0 = cond-false (p x) (1 + prefix_len p xs) 0 no in omega (arith, shape)))
    (cases_Bool (p x))

pub prefix-le : (p : ℕ → Bool) (xs : List ℕ) → prefix_len p xs ≤ length xs
prefix-le p [] = omega arith
prefix-le p (x ∷ xs) =
    ⊎_elim
    (λ (yes : p x ≡ true). let shape : prefix_len p (x ∷ xs) ≡ 1 + prefix_len p xs = cond-true (p x) (1 + prefix_len p xs) 0 yes in let more = prefix-le p xs in omega (arith, shape, more))
    (λ (no : p x ≡ false). let shape : prefix_len p (x ∷ xs) ≡ 0 = cond-false (p x) (1 + prefix_len p xs) 0 no in omega (arith, shape))
    (cases_Bool (p x))

-- the first bytes of a prefix that pass a test
pub prefix-take : (p : ℕ → Bool) (m : ℕ) (xs : List ℕ) → prefix_len p (take m xs) ≡ min m (prefix_len p xs)
prefix-take p zero xs = omega arith
prefix-take p (suc m) [] = omega arith
prefix-take p (suc m) (x ∷ xs) = step (p x) (prefix-take p m xs)
  where
    step : (b : Bool) → prefix_len p (take m xs) ≡ min m (prefix_len p xs) → cond b (1 + prefix_len p (take m xs)) 0 ≡ min (suc m) (cond b (1 + prefix_len p xs) 0)
    step true more = omega (arith, more)
    step false more = omega arith

pub any-prefix : (p : ℕ → Bool) (m n : ℕ) (xs : List ℕ) → m ≤ n → list_any p (take n xs) ≡ false → list_any p (take m xs) ≡ false
any-prefix p zero n xs l h = refl
any-prefix p (suc m) zero xs l h = absurd (omega arith)
any-prefix p (suc m) (suc n) [] l h = refl
any-prefix p (suc m) (suc n) (x ∷ xs) l h = let parts = or_parts (p x) (list_any p (take n xs)) h in or_from (p x) (list_any p (take m xs)) parts.0 (any-prefix p m n xs (omega arith) parts.1)

-- a prefix that is too long to pass
pub too-long : (p : ℕ → Bool) (m : ℕ) (xs : List ℕ) → m ≤ length xs → prefix_len p xs < m → list_all p (take m xs) ≡ false
too-long p m xs l h = false_from_ne_true (list_all p (take m xs)) (λ yes. let le = all-le p m xs l yes in omega (arith, le))

-- ---- runs

run-all : (class : Class) (w : List ℕ) → is_run class w ≡ true → list_all (is_in class) w ≡ true
run-all class [] h = refl
run-all class (c ∷ cs) h = h

run-some : (class : Class) (w : List ℕ) → is_run class w ≡ true → 0 < length w
run-some class [] h = absurd (both_ways false refl h)
run-some class (c ∷ cs) h = omega arith

run-from : (class : Class) (w : List ℕ) → 0 < length w → list_all (is_in class) w ≡ true → is_run class w ≡ true
run-from class [] l h = absurd (omega arith)
run-from class (c ∷ cs) l h = h

pub length-prefix : (m : ℕ) (xs : List ℕ) → m ≤ length xs → length (take m xs) ≡ m
length-prefix zero xs l = refl
length-prefix (suc m) [] l = absurd (omega arith)
length-prefix (suc m) (x ∷ xs) l = let h = length-prefix m xs (omega arith) in omega (arith, h)

pub run-le : (class : Class) (m : ℕ) (xs : List ℕ) → m ≤ length xs → is_run class (take m xs) ≡ true → (m ≤ prefix_len (is_in class) xs) × (0 < m)
run-le class m xs l h = (all-le (is_in class) m xs l (run-all class (take m xs) h), omega (arith, run-some class (take m xs) h, length-prefix m xs l))

pub run-prefix : (class : Class) (n : ℕ) (xs : List ℕ) → 0 < n → n ≤ prefix_len (is_in class) xs → is_run class (take n xs) ≡ true
run-prefix class n xs pos h = run-from class (take n xs) (omega (arith, length-prefix n xs (omega (arith, prefix-le (is_in class) xs)))) (all-prefix (is_in class) n xs h)

-- ---- numbers

pub with_one-some : (n : ℕ) → 0 < n → with_one n ≡ 1 + n
with_one-some n h = cond-true (ltb 0 n) (1 + n) 0 (lt-ltb 0 n h)

pub with_one-is : (n : ℕ) → 0 < with_one n → (0 < n) × (with_one n ≡ 1 + n)
with_one-is n h =
    ⊎_elim (λ (some : 0 < n). (some, with_one-some n some)) (λ (none : n ≤ 0). absurd (let e : with_one n ≡ 0 = cond-false (ltb 0 n) (1 + n) 0 (le-ltb 0 n none) in omega (arith, e))) (cases_lt 0 n)

pub fraction-shape : (c : ℕ) (cs : List ℕ) → fraction_len (c ∷ cs) ≡ cond (eqb c 46) (with_one (prefix_len (is_in Digit) cs)) 0
fraction-shape c cs = step (eqb c 46)
  where
    step : (b : Bool) → cond (b && ltb 0 (prefix_len (is_in Digit) cs)) (1 + prefix_len (is_in Digit) cs) 0 ≡ cond b (with_one (prefix_len (is_in Digit) cs)) 0
    step true = refl
    step false = refl

point-no-digit : (c : ℕ) → eqb c 46 ≡ true → is_in Digit c ≡ false
point-no-digit c h = subst (λ n. is_in Digit n ≡ false) (sym (eqb-true c 46 h)) refl

-- digits and a fraction: where they begin a text
abbrev pub digits_len : List ℕ → ℕ
digits_len text = prefix_len (is_in Digit) text

abbrev pub point_len : List ℕ → ℕ
point_len text = fraction_len (drop (digits_len text) text)

pub digits-here : (c : ℕ) (cs : List ℕ) → is_in Digit c ≡ true → digits_len (c ∷ cs) ≡ suc (digits_len cs)
digits-here c cs h = let e : digits_len (c ∷ cs) ≡ 1 + digits_len cs = cond-true (is_in Digit c) (1 + digits_len cs) 0 h in omega (arith, e)

pub digits-none : (c : ℕ) (cs : List ℕ) → is_in Digit c ≡ false → digits_len (c ∷ cs) ≡ 0
digits-none c cs h = cond-false (is_in Digit c) (1 + digits_len cs) 0 h

pub point-here : (c : ℕ) (cs : List ℕ) → is_in Digit c ≡ true → point_len (c ∷ cs) ≡ point_len cs
point-here c cs h = ap (λ n. fraction_len (drop n (c ∷ cs))) (digits-here c cs h)

pub point-none : (c : ℕ) (cs : List ℕ) → is_in Digit c ≡ false → point_len (c ∷ cs) ≡ fraction_len (c ∷ cs)
point-none c cs h = ap (λ n. fraction_len (drop n (c ∷ cs))) (digits-none c cs h)

pub fraction-le : (m : ℕ) (xs : List ℕ) → m ≤ length xs → is_fraction (take m xs) ≡ true → (m ≤ digits_len xs + point_len xs) × (0 < point_len xs)
fraction-le zero xs l h = absurd (both_ways false refl h)
fraction-le (suc m) [] l h = absurd (omega arith)
fraction-le (suc m) (c ∷ cs) l h =
    ⊎_elim
    (λ (point : eqb c 46 ≡ true).
    let none = point-no-digit c point in
    let run : is_run Digit (take m cs) ≡ true = sym (cond-true (eqb c 46) (is_run Digit (take m cs)) (is_in Digit c && is_fraction (take m cs)) point) ∙ h in
    let le = run-le Digit m cs (omega arith) run in
    let shape : fraction_len (c ∷ cs) ≡ with_one (prefix_len (is_in Digit) cs) = fraction-shape c cs ∙ cond-true (eqb c 46) (with_one (prefix_len (is_in Digit) cs)) 0 point in
    let one = with_one-some (prefix_len (is_in Digit) cs) (omega (arith, le.0, le.1)) in
    (omega (arith, le.0, shape, one, point-none c cs none, digits-none c cs none), omega (arith, shape, one, point-none c cs none)))
    (λ (other : eqb c 46 ≡ false).
    let more : (is_in Digit c && is_fraction (take m cs)) ≡ true = sym (cond-false (eqb c 46) (is_run Digit (take m cs)) (is_in Digit c && is_fraction (take m cs)) other) ∙ h in
    let parts = and_parts (is_in Digit c) (is_fraction (take m cs)) more in
    let rest = fraction-le m cs (omega arith) parts.1 in
    (omega (arith, rest.0, digits-here c cs parts.0, point-here c cs parts.0), omega (arith, rest.1, point-here c cs parts.0)))
    (cases_Bool (eqb c 46))

pub fraction-at : (n : ℕ) (xs : List ℕ) → n ≡ digits_len xs + point_len xs → 0 < point_len xs → is_fraction (take n xs) ≡ true
fraction-at n [] e h = absurd (omega arith)
fraction-at zero (c ∷ cs) e h = absurd (omega (arith, e))
fraction-at (suc n) (c ∷ cs) e h =
    ⊎_elim
    (λ (digit : is_in Digit c ≡ true).
    let other : eqb c 46 ≡ false = false_from_ne_true (eqb c 46) (λ point. both_ways (is_in Digit c) (point-no-digit c point) digit) in
    let rest = fraction-at n cs (omega (arith, e, digits-here c cs digit, point-here c cs digit)) (omega (arith, point-here c cs digit)) in
    cond-false (eqb c 46) (is_run Digit (take n cs)) (is_in Digit c && is_fraction (take n cs)) other ∙ and_from (is_in Digit c) (is_fraction (take n cs)) digit rest)
    (λ (none : is_in Digit c ≡ false).
    let shape = fraction-shape c cs in
    ⊎_elim
    (λ (point : eqb c 46 ≡ true).
    let len : fraction_len (c ∷ cs) ≡ with_one (prefix_len (is_in Digit) cs) = shape ∙ cond-true (eqb c 46) (with_one (prefix_len (is_in Digit) cs)) 0 point in
    let one = with_one-is (prefix_len (is_in Digit) cs) (omega (arith, len, point-none c cs none)) in
    cond-true (eqb c 46) (is_run Digit (take n cs)) (is_in Digit c && is_fraction (take n cs)) point ∙ run-prefix Digit n cs (omega (arith, e, one.0, one.1, len, digits-none c cs none, point-none c cs none)) (omega (arith, e, one.1, len, digits-none c cs none, point-none c cs none)))
    (λ (other : eqb c 46 ≡ false). absurd (let len : fraction_len (c ∷ cs) ≡ 0 = shape ∙ cond-false (eqb c 46) (with_one (prefix_len (is_in Digit) cs)) 0 other in omega (arith, len, point-none c cs none)))
    (cases_Bool (eqb c 46)))
    (cases_Bool (is_in Digit c))

pub fraction-prefix : (xs : List ℕ) → 0 < point_len xs → is_fraction (take (digits_len xs + point_len xs) xs) ≡ true
fraction-prefix xs h = fraction-at (digits_len xs + point_len xs) xs refl h

-- a number with a base
base-le : (base : Option Class) (m : ℕ) (ds : List ℕ) → m ≤ length ds → is_run_of base (take m ds) ≡ true → (suc m ≤ base_len base ds) × (0 < m)
base-le None m ds l h = absurd (both_ways false refl h)
base-le (Some class) m ds l h =
    let le = run-le class m ds l h in
    let one = with_one-some (prefix_len (is_in class) ds) (omega (arith, le.0, le.1)) in
    (omega (arith, le.0, one), le.1)

base-at : (base : Option Class) (m : ℕ) (ds : List ℕ) → suc m ≡ base_len base ds → is_run_of base (take m ds) ≡ true
base-at None m ds e = absurd (omega (arith, e))
base-at (Some class) m ds e =
    let one = with_one-is (prefix_len (is_in class) ds) (omega (arith, e)) in
    run-prefix class m ds (omega (arith, e, one.0, one.1)) (omega (arith, e, one.1))

backslash-le : (m : ℕ) (cs : List ℕ) → m ≤ length cs → is_after_backslash (take m cs) ≡ true → m ≤ after_backslash_len cs × (0 < m)
backslash-le zero cs l h = absurd (both_ways false refl h)
backslash-le (suc m) [] l h = absurd (omega arith)
backslash-le (suc m) (b ∷ ds) l h = ((base-le (base_of b) m ds (omega arith) h).0, omega arith)

backslash-at : (m : ℕ) (cs : List ℕ) → m ≡ after_backslash_len cs → 0 < m → is_after_backslash (take m cs) ≡ true
backslash-at zero cs e h = absurd (omega arith)
backslash-at (suc m) [] e h = absurd (omega (arith, e))
backslash-at (suc m) (b ∷ ds) e h = base-at (base_of b) m ds e

pub based-le : (m : ℕ) (c : ℕ) (cs : List ℕ) → m ≤ length cs → is_based (c ∷ take m cs) ≡ true → suc m ≤ based_len (c ∷ cs)
based-le m c cs l h =
    let parts = and_parts (eqb c 92) (is_after_backslash (take m cs)) h in
    let le = backslash-le m cs l parts.1 in
    let one = with_one-some (after_backslash_len cs) (omega (arith, le.0, le.1)) in
    omega (arith, le.0, one)

pub based-at : (m c : ℕ) (cs : List ℕ) → eqb c 92 ≡ true → suc m ≡ based_len (c ∷ cs) → is_based (c ∷ take m cs) ≡ true
based-at m c cs h e =
    let one = with_one-is (after_backslash_len cs) (omega (arith, e)) in
    and_from (eqb c 92) (is_after_backslash (take m cs)) h (backslash-at m cs (omega (arith, e, one.1)) (omega (arith, e, one.0, one.1)))

pub based-prefix : (c : ℕ) (cs : List ℕ) (n : ℕ) → eqb c 92 ≡ true → n ≡ based_len (c ∷ cs) → 0 < n → is_based (take n (c ∷ cs)) ≡ true
based-prefix c cs zero h e pos = absurd (omega arith)
based-prefix c cs (suc m) h e pos = based-at m c cs h e

-- ---- long runs

pub long-le : (class : Class) (m : ℕ) (xs : List ℕ) → m ≤ length xs → is_long_run class (take m xs) ≡ true → m ≤ long_run_len class xs
long-le class m xs l h =
    let parts = and_parts (leb 4 (length (take m xs))) (list_all (is_in class) (take m xs)) h in
    let four = leb-true 4 (length (take m xs)) parts.0 in
    let le = all-le (is_in class) m xs l parts.1 in
    let shape : long_run_len class xs ≡ prefix_len (is_in class) xs = cond-true (leb 4 (prefix_len (is_in class) xs)) (prefix_len (is_in class) xs) 0 (le-leb 4 (prefix_len (is_in class) xs) (omega (arith, four, le, length-prefix m xs l))) in
    omega (arith, le, shape)

pub long-is : (class : Class) (xs : List ℕ) → 0 < long_run_len class xs → (4 ≤ prefix_len (is_in class) xs) × (long_run_len class xs ≡ prefix_len (is_in class) xs)
long-is class xs h =
    ⊎_elim
    (λ (short : prefix_len (is_in class) xs < 4). absurd (let e : long_run_len class xs ≡ 0 = cond-false (leb 4 (prefix_len (is_in class) xs)) (prefix_len (is_in class) xs) 0 (lt-leb 4 (prefix_len (is_in class) xs) short) in omega (arith, e)))
    (λ (long : 4 ≤ prefix_len (is_in class) xs). (long, cond-true (leb 4 (prefix_len (is_in class) xs)) (prefix_len (is_in class) xs) 0 (le-leb 4 (prefix_len (is_in class) xs) long)))
    (cases_lt (prefix_len (is_in class) xs) 4)

pub long-prefix : (class : Class) (n : ℕ) (xs : List ℕ) → n ≡ long_run_len class xs → 0 < n → is_long_run class (take n xs) ≡ true
long-prefix class n xs e h =
    let is = long-is class xs (omega (arith, e)) in
    let size : length (take n xs) ≡ n = length-prefix n xs (omega (arith, e, is.1, prefix-le (is_in class) xs)) in
    and_from (leb 4 (length (take n xs))) (list_all (is_in class) (take n xs)) (le-leb 4 (length (take n xs)) (omega (arith, size, e, is.0, is.1))) (all-prefix (is_in class) n xs (omega (arith, e, is.1)))
