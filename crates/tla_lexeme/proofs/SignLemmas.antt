-- The longest lexeme at a sign.
use Rattle.std.proofs.Common.{◌≡◌, ◌≢◌, ℕ, zero, suc, ◌<◌, ◌≤◌, true, false, ◌||◌, eqb, leb, List, [], ◌∷◌, length, take, drop, min, slice_index, ◌+◌, Option, Some, None, refl, sym, ap, ◌∙◌, subst, ⊎_elim, arith}
use Rattle.std.proofs.lemmas.Bool.{cases_Bool, cases_lt, and_left, and_right, or_from, or_left, or_right, or_parts, eqb-true, ne_eqb, lt-leb, le-leb, cond-true, cond-false, false_from_ne_true}
use Rattle.std.specs.List.{prefix_len}
use Rattle.tla_symbols.specs.declared.lexeme.LexKind.TheVariants.{Name, Number, Dashes, Equals}
use Rattle.tla_lexeme.specs.declared.begin.Member.{Member}
use Rattle.tla_lexeme.specs.declared.class.Class.{Class}
use Rattle.tla_lexeme.specs.declared.class.Class.TheVariants.{WordChar, Digit, Dash, EqualSign}
use Rattle.tla_lexeme.specs.LexemeSets.{is_in, is_run, is_fraction, is_based, is_long_run, base_of, table_kind, open_kind, kind_of}
use Rattle.tla_lexeme.specs.Lexing.{lexeme_at, longest_of}
use Rattle.tla_lexeme.specs.Lengths.{fraction_len, base_len, after_backslash_len, based_len, long_run_len, open_sign, goes_on, most_further, most_len}
use Rattle.tla_lexeme.proofs.LongestLemmas.{longest_some, longest_same, longest_down}
use Rattle.tla_lexeme.proofs.TableLemmas.{open-none, sign-none, is_not_open}
use Rattle.tla_lexeme.proofs.SetLemmas.{prefix-take, prefix-le, too-long, length-prefix, fraction-at, fraction-shape, with_one-is, with_one-some, based-le, based-at, long-le, long-is, long-prefix}
use Rattle.tla_lexeme.proofs.KindLemmas.{from_suc, kind-open, kind-table, open-number, open-dashes, open-equals, open-nothing, name-first, string-first, long-first, based-first, run-first, fraction-first, number-none, number-long}

-- what the numbers and the long runs are that begin at a sign
record IsOpen (c : ℕ) (cs : List ℕ) (start : Member) : Type 0 where
  later : (k : ℕ) → start.len < suc k → suc k ≤ length (c ∷ cs) → open_kind (c ∷ take k cs) ≡ None
  here : (k : ℕ) → suc k ≡ start.len → open_kind (c ∷ take k cs) ≡ Some start.kind
  tables : (k : ℕ) → 0 < start.len → start.len ≤ suc k → table_kind (c ∷ take k cs) ≡ None

no_open : (w : List ℕ) → 0 < (open_sign w).len → is_not_open w ≡ false
no_open w h = ne_eqb (open_sign w).len 0 (λ e. omega (arith, e))

-- ---- a point

point-some : (k : ℕ) (cs : List ℕ) → 0 < fraction_len (46 ∷ cs) → fraction_len (46 ∷ cs) ≤ suc k → 0 < fraction_len (46 ∷ take k cs)
point-some k cs pos le =
    let one = with_one-is (prefix_len (is_in Digit) cs) (omega (arith, fraction-shape 46 cs)) in
    let prefix = prefix-take (is_in Digit) k cs in
    let some = with_one-some (prefix_len (is_in Digit) (take k cs)) (omega (arith, prefix, one.0, one.1, fraction-shape 46 cs, le)) in
    omega (arith, some, fraction-shape 46 (take k cs))

at_point : (cs : List ℕ) → IsOpen 46 cs (record { len = fraction_len (46 ∷ cs); kind = Number })
at_point cs = record {
  later = λ k lt le. open-nothing (46 ∷ take k cs) (name-first 46 (take k cs) refl) (number-long (suc k) (46 ∷ cs) le (omega arith) (based-first 46 (take k cs) refl)) (string-first 46 (take k cs) refl) (long-first Dash 46 (take k cs) refl) (long-first EqualSign 46 (take k cs) refl);
  here = λ k e. open-number (46 ∷ take k cs) (name-first 46 (take k cs) refl) (or_left (is_run Digit (46 ∷ take k cs) || is_fraction (46 ∷ take k cs)) (is_based (46 ∷ take k cs)) (or_right (is_run Digit (46 ∷ take k cs)) (is_fraction (46 ∷ take k cs)) (fraction-at (suc k) (46 ∷ cs) (omega (arith, e)) (omega (arith, e)))));
  tables = λ k pos le. open-none (46 ∷ take k cs) (no_open (46 ∷ take k cs) (point-some k cs pos le));
}

-- ---- a backslash

base-some : (base : Option Class) (k : ℕ) (ds : List ℕ) → 0 < base_len base ds → base_len base ds ≤ suc k → 0 < base_len base (take k ds)
base-some None k ds pos le = pos
base-some (Some class) k ds pos le =
    let one = with_one-is (prefix_len (is_in class) ds) pos in
    let some = with_one-some (prefix_len (is_in class) (take k ds)) (omega (arith, prefix-take (is_in class) k ds, one.0, one.1, le)) in
    omega (arith, some)

backslash-some : (k : ℕ) (cs : List ℕ) → 0 < after_backslash_len cs → after_backslash_len cs ≤ k → 0 < after_backslash_len (take k cs)
backslash-some zero cs pos le = absurd (omega arith)
backslash-some (suc k) [] pos le = pos
backslash-some (suc k) (b ∷ ds) pos le = base-some (base_of b) k ds pos le

based-some : (k : ℕ) (cs : List ℕ) → 0 < based_len (92 ∷ cs) → based_len (92 ∷ cs) ≤ suc k → 0 < based_len (92 ∷ take k cs)
based-some k cs pos le =
    let one = with_one-is (after_backslash_len cs) pos in
    let more = backslash-some k cs one.0 (omega (arith, one.1)) in
    omega (arith, with_one-some (after_backslash_len (take k cs)) more)

at_backslash : (cs : List ℕ) → IsOpen 92 cs (record { len = based_len (92 ∷ cs); kind = Number })
at_backslash cs = record {
  later = λ k lt le. open-nothing (92 ∷ take k cs) (name-first 92 (take k cs) refl)
      (number-none (92 ∷ take k cs) (run-first 92 (take k cs) refl) (fraction-first 92 (take k cs) refl refl) (false_from_ne_true (is_based (92 ∷ take k cs)) (λ yes. let short = based-le k 92 cs (omega arith) yes in omega (arith, short, lt))))
      (string-first 92 (take k cs) refl) (long-first Dash 92 (take k cs) refl) (long-first EqualSign 92 (take k cs) refl);
  here = λ k e. open-number (92 ∷ take k cs) (name-first 92 (take k cs) refl) (or_right (is_run Digit (92 ∷ take k cs) || is_fraction (92 ∷ take k cs)) (is_based (92 ∷ take k cs)) (based-at k 92 cs refl e));
  tables = λ k pos le. open-none (92 ∷ take k cs) (no_open (92 ∷ take k cs) (based-some k cs pos le));
}

-- ---- runs

long-some : (class : Class) (m : ℕ) (xs : List ℕ) → 0 < long_run_len class xs → long_run_len class xs ≤ m → 0 < long_run_len class (take m xs)
long-some class m xs pos le =
    let is = long-is class xs pos in
    let prefix = prefix-take (is_in class) m xs in
    let e : long_run_len class (take m xs) ≡ prefix_len (is_in class) (take m xs) = cond-true (leb 4 (prefix_len (is_in class) (take m xs))) (prefix_len (is_in class) (take m xs)) 0 (le-leb 4 (prefix_len (is_in class) (take m xs)) (omega (arith, prefix, is.0, is.1, le))) in
    omega (arith, e, prefix, is.0, is.1, le)

long-later : (class : Class) (m : ℕ) (xs : List ℕ) → m ≤ length xs → long_run_len class xs < m → is_long_run class (take m xs) ≡ false
long-later class m xs l lt = false_from_ne_true (is_long_run class (take m xs)) (λ yes. let le = long-le class m xs l yes in omega (arith, le))

at_dash : (cs : List ℕ) → IsOpen 45 cs (record { len = long_run_len Dash (45 ∷ cs); kind = Dashes })
at_dash cs = record {
  later = λ k lt le. open-nothing (45 ∷ take k cs) (name-first 45 (take k cs) refl) (number-none (45 ∷ take k cs) (run-first 45 (take k cs) refl) (fraction-first 45 (take k cs) refl refl) (based-first 45 (take k cs) refl)) (string-first 45 (take k cs) refl) (long-later Dash (suc k) (45 ∷ cs) le lt) (long-first EqualSign 45 (take k cs) refl);
  here = λ k e. open-dashes (45 ∷ take k cs) (name-first 45 (take k cs) refl) (number-none (45 ∷ take k cs) (run-first 45 (take k cs) refl) (fraction-first 45 (take k cs) refl refl) (based-first 45 (take k cs) refl)) (string-first 45 (take k cs) refl) (long-prefix Dash (suc k) (45 ∷ cs) e (omega arith));
  tables = λ k pos le. open-none (45 ∷ take k cs) (no_open (45 ∷ take k cs) (long-some Dash (suc k) (45 ∷ cs) pos le));
}

at_equal_sign : (cs : List ℕ) → IsOpen 61 cs (record { len = long_run_len EqualSign (61 ∷ cs); kind = Equals })
at_equal_sign cs = record {
  later = λ k lt le. open-nothing (61 ∷ take k cs) (name-first 61 (take k cs) refl) (number-none (61 ∷ take k cs) (run-first 61 (take k cs) refl) (fraction-first 61 (take k cs) refl refl) (based-first 61 (take k cs) refl)) (string-first 61 (take k cs) refl) (long-first Dash 61 (take k cs) refl) (long-later EqualSign (suc k) (61 ∷ cs) le lt);
  here = λ k e. open-equals (61 ∷ take k cs) (name-first 61 (take k cs) refl) (number-none (61 ∷ take k cs) (run-first 61 (take k cs) refl) (fraction-first 61 (take k cs) refl refl) (based-first 61 (take k cs) refl)) (string-first 61 (take k cs) refl) (long-first Dash 61 (take k cs) refl) (long-prefix EqualSign (suc k) (61 ∷ cs) e (omega arith));
  tables = λ k pos le. open-none (61 ∷ take k cs) (no_open (61 ∷ take k cs) (long-some EqualSign (suc k) (61 ∷ cs) pos le));
}

-- ---- any other sign

at_other : (c : ℕ) (cs : List ℕ) → is_in WordChar c ≡ false → is_in Digit c ≡ false → eqb c 34 ≡ false → eqb c 46 ≡ false → eqb c 92 ≡ false → eqb c 45 ≡ false → eqb c 61 ≡ false → IsOpen c cs (record { len = 0; kind = Name })
at_other c cs word digit quote point backslash dash equal = record {
  later = λ k lt le. open-nothing (c ∷ take k cs) (name-first c (take k cs) word) (number-none (c ∷ take k cs) (run-first c (take k cs) digit) (fraction-first c (take k cs) point digit) (based-first c (take k cs) backslash)) (string-first c (take k cs) quote) (long-first Dash c (take k cs) dash) (long-first EqualSign c (take k cs) equal);
  here = λ k e. absurd (omega (arith, e));
  tables = λ k pos le. absurd (omega arith);
}

no-digit : (c : ℕ) → is_in WordChar c ≡ false → is_in Digit c ≡ false
no-digit c h = (or_parts _ _ (or_parts _ _ (or_parts _ (eqb c 95) h).0).0).0

is_open : (c : ℕ) (cs : List ℕ) → is_in WordChar c ≡ false → eqb c 34 ≡ false → IsOpen c cs (open_sign (c ∷ cs))
is_open c cs word quote =
    ⊎_elim
    (λ (h : eqb c 46 ≡ true). subst (λ b. IsOpen b cs (open_sign (b ∷ cs))) (sym (eqb-true c 46 h)) (at_point cs))
    (λ (point : eqb c 46 ≡ false).
    ⊎_elim
    (λ (h : eqb c 92 ≡ true). subst (λ b. IsOpen b cs (open_sign (b ∷ cs))) (sym (eqb-true c 92 h)) (at_backslash cs))
    (λ (backslash : eqb c 92 ≡ false).
    ⊎_elim
    (λ (h : eqb c 45 ≡ true). subst (λ b. IsOpen b cs (open_sign (b ∷ cs))) (sym (eqb-true c 45 h)) (at_dash cs))
    (λ (dash : eqb c 45 ≡ false).
    ⊎_elim
    (λ (h : eqb c 61 ≡ true). subst (λ b. IsOpen b cs (open_sign (b ∷ cs))) (sym (eqb-true c 61 h)) (at_equal_sign cs))
    (λ (equal : eqb c 61 ≡ false).
    let none : open_sign (c ∷ cs) ≡ record { len = 0; kind = Name } = cond-false (eqb c 46) _ _ point ∙ cond-false (eqb c 92) _ _ backslash ∙ cond-false (eqb c 45) _ _ dash ∙ cond-false (eqb c 61) _ _ equal in
    subst (λ o. IsOpen c cs o) (sym none) (at_other c cs word (no-digit c word) quote point backslash dash equal))
    (cases_Bool (eqb c 61)))
    (cases_Bool (eqb c 45)))
    (cases_Bool (eqb c 92)))
    (cases_Bool (eqb c 46))

-- ---- the lexeme

open_later : (c : ℕ) (cs : List ℕ) (start : Member) → IsOpen c cs start → 0 < start.len → (k : ℕ) → start.len < suc k → suc k ≤ length (c ∷ cs) → kind_of (c ∷ take k cs) ≡ None
open_later c cs start is pos k lt le = kind-open (c ∷ take k cs) (is.tables k pos (omega arith)) ∙ is.later k lt le

open_here : (c : ℕ) (cs : List ℕ) (start : Member) → IsOpen c cs start → (n : ℕ) → n ≡ start.len → 0 < n → kind_of (take n (c ∷ cs)) ≡ Some start.kind
open_here c cs start is zero e pos = absurd (omega arith)
open_here c cs start is (suc k) e pos = kind-open (c ∷ take k cs) (is.tables k (omega (arith, e)) (omega (arith, e))) ∙ is.here k e

open_cons : (c : ℕ) (cs : List ℕ) (start : Member) → IsOpen c cs start → 0 < start.len → start.len ≤ length (c ∷ cs) → lexeme_at (c ∷ cs) ≡ Some (record { len = start.len; kind = start.kind })
open_cons c cs start is pos le = longest_some kind_of (length (c ∷ cs)) start.len (c ∷ cs) start.kind pos le (open_here c cs start is start.len refl pos) (from_suc (λ m. m ≤ length (c ∷ cs) → kind_of (take m (c ∷ cs)) ≡ None) start.len (λ k lt l. open_later c cs start is pos k lt l))

-- no symbol or mark is longer than its bytes go on
short-spelling : (c : ℕ) (cs : List ℕ) → is_in WordChar c ≡ false → (k : ℕ) → most_len (c ∷ cs) < suc k → suc k ≤ length (c ∷ cs) → table_kind (c ∷ take k cs) ≡ None
short-spelling c cs word k lt le =
    sign-none (c ∷ take k cs) (or_from _ _ word (⊎_elim
    (λ (many : most_further c < k). and_left _ _ (lt-leb (length (take k cs)) (most_further c) (omega (arith, length-prefix k cs (omega arith)))))
    (λ (few : k ≤ most_further c). and_right _ _ (too-long (goes_on c) k cs (omega arith) (omega (arith, lt))))
    (cases_lt (most_further c) k)))

spelled_cons : (c : ℕ) (cs : List ℕ) (start : Member) → is_in WordChar c ≡ false → IsOpen c cs start → start.len ≡ 0 → lexeme_at (c ∷ cs) ≡ longest_of table_kind (most_len (c ∷ cs)) (c ∷ cs)
spelled_cons c cs start word is none =
    longest_same kind_of table_kind (length (c ∷ cs)) (c ∷ cs) (from_suc (λ m. m ≤ length (c ∷ cs) → kind_of (take m (c ∷ cs)) ≡ table_kind (take m (c ∷ cs))) 0 (λ k lt le. kind-table (c ∷ take k cs) (is.later k (omega (arith, none)) le))) ∙
    longest_down table_kind (length (c ∷ cs)) (most_len (c ∷ cs)) (c ∷ cs) (omega (arith, prefix-le (goes_on c) cs)) (from_suc (λ m. m ≤ length (c ∷ cs) → table_kind (take m (c ∷ cs)) ≡ None) (most_len (c ∷ cs)) (λ k lt le. short-spelling c cs word k lt le))

pub open_is : (text : List ℕ) (start : Member) → 0 < length text → is_in WordChar (slice_index text 0) ≡ false → slice_index text 0 ≢ 34 → start ≡ open_sign text → 0 < start.len → start.len ≤ length text → Some start ≡ lexeme_at text
open_is [] start filled word quote e pos le = absurd (omega arith)
open_is (c ∷ cs) start filled word quote e pos le = sym (open_cons c cs start (subst (λ o. IsOpen c cs o) (sym e) (is_open c cs word (ne_eqb c 34 quote))) pos le)

pub spelled_is : (text : List ℕ) (start : Member) (most : ℕ) → 0 < length text → is_in WordChar (slice_index text 0) ≡ false → slice_index text 0 ≢ 34 → start ≡ open_sign text → start.len ≤ 0 → most ≡ most_len text → longest_of table_kind most text ≡ lexeme_at text
spelled_is [] start most filled word quote e none ismost = absurd (omega arith)
spelled_is (c ∷ cs) start most filled word quote e none ismost =
    ap (λ n. longest_of table_kind n (c ∷ cs)) ismost ∙ sym (spelled_cons c cs start word (subst (λ o. IsOpen c cs o) (sym e) (is_open c cs word (ne_eqb c 34 quote))) (omega arith))

-- of what follows the first byte, so many bytes are enough
pub most_short : (text more few : List ℕ) (most n k : ℕ) → 0 < length text → most ≡ most_further (slice_index text 0) → more ≡ drop 1 text → n ≡ min (length more) most → few ≡ take n more → k ≡ prefix_len (goes_on (slice_index text 0)) few → 1 + k ≡ most_len text
most_short [] more few most n k filled ismost ismore isn isfew isk = absurd (omega arith)
most_short (c ∷ cs) more few most n k filled ismost ismore isn isfew isk =
    let size : k ≡ min n (prefix_len (goes_on c) cs) = isk ∙ ap (prefix_len (goes_on c)) (isfew ∙ ap (take n) ismore) ∙ prefix-take (goes_on c) n cs in
    omega (arith, size, isn, ismost, ap length ismore, prefix-le (goes_on c) cs)
