-- The longest lexeme at a letter, a digit or `_`.
use Rattle.std.proofs.Common.{◌≡◌, ℕ, zero, suc, ◌+◌, ◌<◌, ◌≤◌, true, false, ◌&&◌, ◌||◌, eqb, leb, ltb, nat_eq, List, [], ◌∷◌, length, take, drop, slice_index, codes, Option, Some, None, unwrap_or, refl, sym, ap, ◌∙◌, subst, ⊎_elim, inl, inr, ◌⊎◌, arith, length-take, length-drop}
use Rattle.std.specs.Option.{option_or}
use Rattle.std.proofs.lemmas.Bool.{cases_Bool, cases_lt, and_parts, and_from, and_left, and_right, or_parts, or_from, or_left, or_right, or_cases, both_ways, eqb-true, leb-true, lt-leb, lt-ltb, le-ltb, cond-true, cond-false, not_from_true, not_from_false}
use Rattle.std.proofs.lemmas.List.{take-take, length-take-le}
use Rattle.std.proofs.lemmas.Slice.Eq.{bytes_eq-Decides}
use Rattle.std.specs.List.{list_all, list_any, prefix_len, starts_with}
use Rattle.tla_symbols.specs.declared.lexeme.LexKind.{LexKind}
use Rattle.tla_symbols.specs.declared.lexeme.LexKind.TheVariants.{Name, Number, Word, Mark}
use Rattle.tla_symbols.specs.declared.lexeme.Word.TheVariants.{WeakFair, StrongFair}
use Rattle.tla_symbols.specs.declared.lexeme.Mark.TheVariants.{Underscore}
use Rattle.tla_lexeme.specs.declared.begin.Member.{Member}
use Rattle.tla_lexeme.specs.declared.class.Class.TheVariants.{Letter, WordChar, Digit}
use Rattle.tla_lexeme.specs.LexemeSets.{is_in, is_name, is_number, is_fair, goes_beyond, table_kind, open_kind, kind_of}
use Rattle.tla_lexeme.specs.Lexing.{lexeme_at, begins}
use Rattle.tla_lexeme.specs.Lengths.{has_letter, bare_len, begins_fair, named_len, fraction_len}
use Rattle.tla_lexeme.proofs.LongestLemmas.{longest_some}
use Rattle.tla_lexeme.proofs.TableLemmas.{word-none, digit-none, is_word_spelling}
use Rattle.tla_lexeme.proofs.SetLemmas.{all-le, all-prefix, too-long, prefix-le, any-prefix, run-prefix, fraction-prefix, digits_len, point_len, digits-here, digits-none, point-here, point-none}
use Rattle.tla_lexeme.proofs.KindLemmas.{from_suc, kind-open, open-name, open-number, number-long, based-first, not-byte, word-first, run-first, fraction-first, number-none}

-- ---- letters and digits

digit-word : (c : ℕ) → is_in Digit c ≡ true → is_in WordChar c ≡ true
digit-word c h = or_left _ _ (or_left _ _ (or_left _ _ h))

digit-letter : (c : ℕ) → is_in Digit c ≡ true → is_in Letter c ≡ false
digit-letter c h =
    let parts = and_parts (leb 48 c) (leb c 57) h in
    let high = leb-true c 57 parts.1 in
    or_from _ _ (and_left (leb 65 c) (leb c 90) (lt-leb 65 c (omega arith))) (and_left (leb 97 c) (leb c 122) (lt-leb 97 c (omega arith)))

run-letter : (c : ℕ) (cs : List ℕ) → is_in WordChar c ≡ true → prefix_len (is_in WordChar) (c ∷ cs) ≡ suc (prefix_len (is_in WordChar) cs)
run-letter c cs h = let e : prefix_len (is_in WordChar) (c ∷ cs) ≡ 1 + prefix_len (is_in WordChar) cs = cond-true (is_in WordChar c) (1 + prefix_len (is_in WordChar) cs) 0 h in omega (arith, e)

run-none : (c : ℕ) (cs : List ℕ) → is_in WordChar c ≡ false → prefix_len (is_in WordChar) (c ∷ cs) ≡ 0
run-none c cs h = cond-false (is_in WordChar c) (1 + prefix_len (is_in WordChar) cs) 0 h

abbrev run : List ℕ → List ℕ
run text = take (prefix_len (is_in WordChar) text) text

run-cons : (c : ℕ) (cs : List ℕ) → is_in WordChar c ≡ true → run (c ∷ cs) ≡ c ∷ run cs
run-cons c cs h = ap (λ n. take n (c ∷ cs)) (run-letter c cs h)

-- in a run with a letter no number is as long as the run
named-short : (text : List ℕ) → has_letter (run text) ≡ true → digits_len text + point_len text < prefix_len (is_in WordChar) text
named-short [] h = absurd (both_ways false refl h)
named-short (c ∷ cs) h =
    ⊎_elim
    (λ (word : is_in WordChar c ≡ true).
    ⊎_elim
    (λ (digit : is_in Digit c ≡ true).
    let later : (is_in Letter c || has_letter (run cs)) ≡ true = sym (ap has_letter (run-cons c cs word)) ∙ h in
    let rest : has_letter (run cs) ≡ true = ⊎_elim (λ (no : is_in Letter c ≡ true). absurd (both_ways (is_in Letter c) (digit-letter c digit) no)) (λ (yes : has_letter (run cs) ≡ true). yes) (or_cases (is_in Letter c) (has_letter (run cs)) later) in
    let more = named-short cs rest in
    omega (arith, more, digits-here c cs digit, point-here c cs digit, run-letter c cs word))
    (λ (none : is_in Digit c ≡ false).
    let no_point : fraction_len (c ∷ cs) ≡ 0 = cond-false (eqb c 46 && ltb 0 (prefix_len (is_in Digit) cs)) _ _ (and_left _ _ (not-byte WordChar 46 c refl word)) in
    omega (arith, no_point, digits-none c cs none, point-none c cs none, run-letter c cs word))
    (cases_Bool (is_in Digit c)))
    (λ (other : is_in WordChar c ≡ false). absurd (both_ways false refl (sym (ap (λ n. has_letter (take n (c ∷ cs))) (run-none c cs other)) ∙ h)))
    (cases_Bool (is_in WordChar c))

bare-letter : (text : List ℕ) → bare_len text ≡ 0 → 0 < prefix_len (is_in WordChar) text → has_letter (run text) ≡ true
bare-letter text h pos =
    ⊎_elim (λ (yes : has_letter (run text) ≡ true). yes) (λ (no : has_letter (run text) ≡ false). absurd (let e : bare_len text ≡ prefix_len (is_in WordChar) text = cond-false (has_letter (run text)) 0 (prefix_len (is_in WordChar) text) no in omega (arith, e)))
    (cases_Bool (has_letter (run text)))

pub bare-none : (text : List ℕ) → 0 < bare_len text → (has_letter (run text) ≡ false) × (bare_len text ≡ prefix_len (is_in WordChar) text)
bare-none text pos =
    ⊎_elim (λ (yes : has_letter (run text) ≡ true). absurd (let e : bare_len text ≡ 0 = cond-true (has_letter (run text)) 0 (prefix_len (is_in WordChar) text) yes in omega (arith, e))) (λ (no : has_letter (run text) ≡ false). (no, cond-false (has_letter (run text)) 0 (prefix_len (is_in WordChar) text) no))
    (cases_Bool (has_letter (run text)))

-- ---- `WF_` and `SF_`

same-prefix : (f : List ℕ) (m : ℕ) (xs : List ℕ) → length f ≤ m → starts_with nat_eq (take m xs) f ≡ starts_with nat_eq xs f
same-prefix f m xs h = rw (take-take (length f) m xs h) refl

beyond-no : (f : List ℕ) (m : ℕ) (xs : List ℕ) → m ≤ length xs → starts_with nat_eq xs f ≡ false → goes_beyond f (take m xs) ≡ false
beyond-no f m xs l h =
    ⊎_elim
    (λ (short : m < length f). and_right _ _ (le-ltb (length f) (length (take m xs)) (omega (arith, length-take-le m xs l))))
    (λ (long : length f ≤ m). and_left _ _ (same-prefix f m xs long ∙ h))
    (cases_lt m (length f))

beyond-yes : (f : List ℕ) (m : ℕ) (xs : List ℕ) → m ≤ length xs → length f < m → starts_with nat_eq xs f ≡ true → goes_beyond f (take m xs) ≡ true
beyond-yes f m xs l lt h = and_from _ _ (same-prefix f m xs (omega arith) ∙ h) (lt-ltb (length f) (length (take m xs)) (omega (arith, length-take-le m xs l)))

fair-no : (m : ℕ) (xs : List ℕ) → m ≤ length xs → begins_fair xs ≡ false → is_fair (take m xs) ≡ false
fair-no m xs l h = let parts = or_parts (begins xs (codes "WF_")) (begins xs (codes "SF_")) h in or_from _ _ (beyond-no (codes "WF_") m xs l parts.0) (beyond-no (codes "SF_") m xs l parts.1)

fair-yes : (m : ℕ) (xs : List ℕ) → m ≤ length xs → 3 < m → begins_fair xs ≡ true → is_fair (take m xs) ≡ true
fair-yes m xs l lt h =
    ⊎_elim (λ (w : begins xs (codes "WF_") ≡ true). or_left _ _ (beyond-yes (codes "WF_") m xs l lt w)) (λ (s : begins xs (codes "SF_") ≡ true). or_right _ _ (beyond-yes (codes "SF_") m xs l lt s))
    (or_cases (begins xs (codes "WF_")) (begins xs (codes "SF_")) h)

prefix-is : (f xs : List ℕ) → begins xs f ≡ true → f ≡ take (length f) xs
prefix-is f xs h = (bytes_eq-Decides f (take (length f) xs)).0 h

-- the word itself
fair-kind : (xs : List ℕ) → begins_fair xs ≡ true → (k : LexKind) × (table_kind (take 3 xs) ≡ Some k)
fair-kind xs h =
    ⊎_elim (λ (w : begins xs (codes "WF_") ≡ true). (Word WeakFair, subst (λ l. table_kind l ≡ Some (Word WeakFair)) (prefix-is (codes "WF_") xs w) refl)) (λ (s : begins xs (codes "SF_") ≡ true). (Word StrongFair, subst (λ l. table_kind l ≡ Some (Word StrongFair)) (prefix-is (codes "SF_") xs s) refl))
    (or_cases (begins xs (codes "WF_")) (begins xs (codes "SF_")) h)

fair-first : (c : ℕ) (cs : List ℕ) → begins_fair (c ∷ cs) ≡ true → (is_in Digit c ≡ false) × (3 ≤ length (c ∷ cs))
fair-first c cs h =
    ⊎_elim (λ (w : begins (c ∷ cs) (codes "WF_") ≡ true). of_front (codes "WF_") (prefix-is (codes "WF_") (c ∷ cs) w) refl refl) (λ (s : begins (c ∷ cs) (codes "SF_") ≡ true). of_front (codes "SF_") (prefix-is (codes "SF_") (c ∷ cs) s) refl refl)
    (or_cases (begins (c ∷ cs) (codes "WF_")) (begins (c ∷ cs) (codes "SF_")) h)
  where
    of_front : (f : List ℕ) → f ≡ take (length f) (c ∷ cs) → length f ≡ 3 → list_any (is_in Digit) (take 1 f) ≡ false → (is_in Digit c ≡ false) × (3 ≤ length (c ∷ cs))
    of_front f e three none =
        let e3 : f ≡ take 3 (c ∷ cs) = e ∙ ap (λ n. take n (c ∷ cs)) three in (
          (or_parts (is_in Digit c) false (sym (ap (λ l. list_any (is_in Digit) (take 1 l)) e3) ∙ none)).0,
          omega (arith, three, ap length e, length-take (length f) (c ∷ cs)),
        )

-- ---- a run with a letter

named-size : (c : ℕ) (cs : List ℕ) → is_in WordChar c ≡ true → bare_len (c ∷ cs) ≡ 0 → (0 < named_len (c ∷ cs)) × (named_len (c ∷ cs) ≤ length (c ∷ cs)) × (digits_len (c ∷ cs) + point_len (c ∷ cs) < named_len (c ∷ cs))
named-size c cs word bare =
    ⊎_elim
    (λ (fair : begins_fair (c ∷ cs) ≡ true).
    let n : named_len (c ∷ cs) ≡ 3 = cond-true (begins_fair (c ∷ cs)) 3 (prefix_len (is_in WordChar) (c ∷ cs)) fair in
    let first = fair-first c cs fair in
    let no_point : fraction_len (c ∷ cs) ≡ 0 = cond-false (eqb c 46 && ltb 0 (prefix_len (is_in Digit) cs)) _ _ (and_left _ _ (not-byte WordChar 46 c refl word)) in
    (omega (arith, n), omega (arith, n, first.1), omega (arith, n, no_point, digits-none c cs first.0, point-none c cs first.0)))
    (λ (plain : begins_fair (c ∷ cs) ≡ false).
    let n : named_len (c ∷ cs) ≡ prefix_len (is_in WordChar) (c ∷ cs) = cond-false (begins_fair (c ∷ cs)) 3 (prefix_len (is_in WordChar) (c ∷ cs)) plain in
    let one = run-letter c cs word in
    let short = named-short (c ∷ cs) (bare-letter (c ∷ cs) bare (omega (arith, one))) in
    (omega (arith, n, one), omega (arith, n, prefix-le (is_in WordChar) (c ∷ cs)), omega (arith, n, short)))
    (cases_Bool (begins_fair (c ∷ cs)))

-- a longer prefix is neither a reserved word nor a name
named-later : (c : ℕ) (cs : List ℕ) → is_in WordChar c ≡ true → (k : ℕ) → named_len (c ∷ cs) < suc k → suc k ≤ length (c ∷ cs) → (is_name (take (suc k) (c ∷ cs)) ≡ false) × (is_word_spelling (take (suc k) (c ∷ cs)) ≡ false)
named-later c cs word k lt le =
    ⊎_elim
    (λ (fair : begins_fair (c ∷ cs) ≡ true).
    let n : named_len (c ∷ cs) ≡ 3 = cond-true (begins_fair (c ∷ cs)) 3 (prefix_len (is_in WordChar) (c ∷ cs)) fair in
    let not_name = not_from_true _ (fair-yes (suc k) (c ∷ cs) le (omega (arith, n)) fair) in
    (and_right _ _ not_name, or_from _ _ (not_from_true (is_in WordChar c) word) (and_right _ _ not_name)))
    (λ (plain : begins_fair (c ∷ cs) ≡ false).
    let n : named_len (c ∷ cs) ≡ prefix_len (is_in WordChar) (c ∷ cs) = cond-false (begins_fair (c ∷ cs)) 3 (prefix_len (is_in WordChar) (c ∷ cs)) plain in
    let long = too-long (is_in WordChar) (suc k) (c ∷ cs) le (omega (arith, n)) in
    (and_left _ _ (and_left _ _ long), or_from _ _ (not_from_true (is_in WordChar c) word) (and_left _ _ (and_left _ _ long))))
    (cases_Bool (begins_fair (c ∷ cs)))

named-none : (c : ℕ) (cs : List ℕ) → is_in WordChar c ≡ true → bare_len (c ∷ cs) ≡ 0 → (k : ℕ) → named_len (c ∷ cs) < suc k → suc k ≤ length (c ∷ cs) → kind_of (take (suc k) (c ∷ cs)) ≡ None
named-none c cs word bare k lt le =
    let later = named-later c cs word k lt le in
    let size = named-size c cs word bare in
    let number = number-long (suc k) (c ∷ cs) le (omega (arith, size.2)) (based-first c (take k cs) (not-byte WordChar 92 c refl word)) in
    kind-open (take (suc k) (c ∷ cs)) (word-none (take (suc k) (c ∷ cs)) later.1) ∙ word-first c (take k cs) word later.0 number

option_or-some : (o other : Option LexKind) (k : LexKind) → (o ≡ None → other ≡ Some k) → option_or o other ≡ Some (unwrap_or o k)
option_or-some None other k h = h refl
option_or-some (Some x) other k h = refl

-- the longest prefix that is not cut short is a name where it is no reserved word
named-kind : (c : ℕ) (cs : List ℕ) → is_in WordChar c ≡ true → bare_len (c ∷ cs) ≡ 0 → table_kind (take (named_len (c ∷ cs)) (c ∷ cs)) ≡ None → open_kind (take (named_len (c ∷ cs)) (c ∷ cs)) ≡ Some Name
named-kind c cs word bare none =
    ⊎_elim
    (λ (fair : begins_fair (c ∷ cs) ≡ true).
    let n : named_len (c ∷ cs) ≡ 3 = cond-true (begins_fair (c ∷ cs)) 3 (prefix_len (is_in WordChar) (c ∷ cs)) fair in
    let some = fair-kind (c ∷ cs) fair in
    absurd (none_some some.0 (sym (ap (λ i. table_kind (take i (c ∷ cs))) n ∙ some.1) ∙ none)))
    (λ (plain : begins_fair (c ∷ cs) ≡ false).
    let n : named_len (c ∷ cs) ≡ prefix_len (is_in WordChar) (c ∷ cs) = cond-false (begins_fair (c ∷ cs)) 3 (prefix_len (is_in WordChar) (c ∷ cs)) plain in
    let letter = bare-letter (c ∷ cs) bare (omega (arith, run-letter c cs word)) in
    let name : is_name (run (c ∷ cs)) ≡ true = and_from _ _ (and_from _ _ (all-prefix (is_in WordChar) (prefix_len (is_in WordChar) (c ∷ cs)) (c ∷ cs) (omega arith)) letter) (not_from_false _ (fair-no (prefix_len (is_in WordChar) (c ∷ cs)) (c ∷ cs) (prefix-le (is_in WordChar) (c ∷ cs)) plain)) in
    ap (λ i. open_kind (take i (c ∷ cs))) n ∙ open-name (run (c ∷ cs)) name)
    (cases_Bool (begins_fair (c ∷ cs)))
  where
    none_some : (k : LexKind) → Some k ≡ None → ⊥
    none_some k e = cc

some_member : (n len : ℕ) (k : LexKind) → n ≡ len → (let a : Option Member = Some (record { len = n; kind = k }) in a) ≡ Some (record { len = len; kind = k })
some_member n len k e = ap (λ i. let o : Option Member = Some (record { len = i; kind = k }) in o) e

named_cons : (c : ℕ) (cs : List ℕ) → is_in WordChar c ≡ true → bare_len (c ∷ cs) ≡ 0 → lexeme_at (c ∷ cs) ≡ Some (record { len = named_len (c ∷ cs); kind = unwrap_or (table_kind (take (named_len (c ∷ cs)) (c ∷ cs))) Name })
named_cons c cs word bare =
    let size = named-size c cs word bare in
    let text : List ℕ = c ∷ cs in
    let n : ℕ = named_len text in
    longest_some kind_of (length text) n text (unwrap_or (table_kind (take n text)) Name) size.0 size.1 (option_or-some (table_kind (take n text)) (open_kind (take n text)) Name (named-kind c cs word bare)) (from_suc (λ m. m ≤ length text → kind_of (take m text) ≡ None) n (λ k lt le. named-none c cs word bare k lt le))

pub named_is : (text : List ℕ) → is_in WordChar (slice_index text 0) ≡ true → bare_len text ≡ 0 → lexeme_at text ≡ Some (record { len = named_len text; kind = unwrap_or (table_kind (take (named_len text) text)) Name })
named_is [] word bare = absurd (both_ways false refl word)
named_is (c ∷ cs) word bare = named_cons c cs word bare

-- ---- a run with no letter

bare-name : (text : List ℕ) (m : ℕ) → 0 < bare_len text → m ≤ length text → is_name (take m text) ≡ false
bare-name text m pos le =
    let none = bare-none text pos in
    ⊎_elim
    (λ (short : m ≤ prefix_len (is_in WordChar) text). and_left _ _ (and_right _ _ (any-prefix (is_in Letter) m (prefix_len (is_in WordChar) text) text short none.0)))
    (λ (long : prefix_len (is_in WordChar) text < m). and_left _ _ (and_left _ _ (too-long (is_in WordChar) m text le long)))
    (cases_le m (prefix_len (is_in WordChar) text))
  where
    cases_le : (m n : ℕ) → (m ≤ n) ⊎ (n < m)
    cases_le m n = ⊎_elim (λ (lt : n < m). inr lt) (λ (le : m ≤ n). inl le) (cases_lt n m)

number-none-later : (c : ℕ) (cs : List ℕ) → is_in Digit c ≡ true → 0 < bare_len (c ∷ cs) → (k : ℕ) → digits_len (c ∷ cs) + point_len (c ∷ cs) < suc k → suc k ≤ length (c ∷ cs) → kind_of (take (suc k) (c ∷ cs)) ≡ None
number-none-later c cs digit pos k lt le =
    let word = digit-word c digit in
    let number = number-long (suc k) (c ∷ cs) le lt (based-first c (take k cs) (not-byte WordChar 92 c refl word)) in
    kind-open (take (suc k) (c ∷ cs)) (digit-none (c ∷ take k cs) (not_from_true (is_in Digit c) digit)) ∙ word-first c (take k cs) word (bare-name (c ∷ cs) (suc k) pos le) number

is_number-here : (text : List ℕ) → 0 < digits_len text → is_number (take (digits_len text + point_len text) text) ≡ true
is_number-here text pos =
    ⊎_elim
    (λ (point : 0 < point_len text). or_left _ _ (or_right _ _ (fraction-prefix text point)))
    (λ (none : point_len text ≤ 0). or_left _ _ (or_left _ _ (run-prefix Digit (digits_len text + point_len text) text (omega arith) (omega arith))))
    (cases_lt 0 (point_len text))

number-kind : (c : ℕ) (cs : List ℕ) (n : ℕ) → n ≡ digits_len (c ∷ cs) + point_len (c ∷ cs) → is_in Digit c ≡ true → 0 < bare_len (c ∷ cs) → n ≤ length (c ∷ cs) → kind_of (take n (c ∷ cs)) ≡ Some Number
number-kind c cs zero e digit pos le = absurd (omega (arith, e, digits-here c cs digit))
number-kind c cs (suc n) e digit pos le =
    let number : is_number (take (suc n) (c ∷ cs)) ≡ true = ap (λ i. is_number (take i (c ∷ cs))) e ∙ is_number-here (c ∷ cs) (omega (arith, digits-here c cs digit)) in
    kind-open (take (suc n) (c ∷ cs)) (digit-none (c ∷ take n cs) (not_from_true (is_in Digit c) digit)) ∙ open-number (take (suc n) (c ∷ cs)) (bare-name (c ∷ cs) (suc n) pos le) number

number_cons : (c : ℕ) (cs : List ℕ) → is_in Digit c ≡ true → 0 < bare_len (c ∷ cs) → digits_len (c ∷ cs) + point_len (c ∷ cs) ≤ length (c ∷ cs) → lexeme_at (c ∷ cs) ≡ Some (record { len = digits_len (c ∷ cs) + point_len (c ∷ cs); kind = Number })
number_cons c cs digit pos le =
    let text : List ℕ = c ∷ cs in
    let n : ℕ = digits_len text + point_len text in
    longest_some kind_of (length text) n text Number (omega (arith, digits-here c cs digit)) le (number-kind c cs n refl digit pos le) (from_suc (λ m. m ≤ length text → kind_of (take m text) ≡ None) n (λ k lt l. number-none-later c cs digit pos k lt l))

pub number_is : (text : List ℕ) → is_in Digit (slice_index text 0) ≡ true → 0 < bare_len text → digits_len text + point_len text ≤ length text → lexeme_at text ≡ Some (record { len = digits_len text + point_len text; kind = Number })
number_is [] digit pos le = absurd (both_ways false refl digit)
number_is (c ∷ cs) digit pos le = number_cons c cs digit pos le

-- ---- `_`

alphanumeric : (c : ℕ) → is_in WordChar c ≡ true → is_in Digit c ≡ false → is_in Letter c ≡ false → eqb c 95 ≡ true
alphanumeric c word digit letter =
    let parts = or_parts _ _ letter in
    ⊎_elim (λ (alnum : _ ≡ true). absurd (both_ways _ (or_from _ _ (or_from _ _ digit parts.0) parts.1) alnum)) (λ (line : eqb c 95 ≡ true). line)
    (or_cases _ (eqb c 95) word)

underscore-later : (cs : List ℕ) → 0 < bare_len (95 ∷ cs) → (k : ℕ) → 1 < suc k → suc k ≤ length (95 ∷ cs) → kind_of (take (suc k) (95 ∷ cs)) ≡ None
underscore-later cs pos k lt le =
    let name = bare-name (95 ∷ cs) (suc k) pos le in
    let none = bare-none (95 ∷ cs) pos in
    let spelling : is_word_spelling (95 ∷ take k cs) ≡ false =
    ⊎_elim
    (λ (all : list_all (is_in WordChar) (take (suc k) (95 ∷ cs)) ≡ true).
    let short = all-le (is_in WordChar) (suc k) (95 ∷ cs) le all in
    let letters = any-prefix (is_in Letter) (suc k) (prefix_len (is_in WordChar) (95 ∷ cs)) (95 ∷ cs) short none.0 in
    and_left _ _ (and_right _ _ (or_from _ _ (lt-leb (length (95 ∷ take k cs)) 1 (omega (arith, length-take-le (suc k) (95 ∷ cs) le))) letters)))
    (λ (some : list_all (is_in WordChar) (take (suc k) (95 ∷ cs)) ≡ false). and_left _ _ (and_left _ _ some))
    (cases_Bool (list_all (is_in WordChar) (take (suc k) (95 ∷ cs))))
    in
    kind-open (95 ∷ take k cs) (word-none (95 ∷ take k cs) spelling) ∙ word-first 95 (take k cs) refl name (number-none (95 ∷ take k cs) (run-first 95 (take k cs) refl) (fraction-first 95 (take k cs) refl refl) (based-first 95 (take k cs) refl))

underscore_cons : (cs : List ℕ) → 0 < bare_len (95 ∷ cs) → lexeme_at (95 ∷ cs) ≡ Some (record { len = 1; kind = Mark Underscore })
underscore_cons cs pos = longest_some kind_of (length (95 ∷ cs)) 1 (95 ∷ cs) (Mark Underscore) (omega arith) (omega arith) refl (from_suc (λ m. m ≤ length (95 ∷ cs) → kind_of (take m (95 ∷ cs)) ≡ None) 1 (λ k lt le. underscore-later cs pos k lt le))

pub underscore_is : (text : List ℕ) → is_in WordChar (slice_index text 0) ≡ true → is_in Digit (slice_index text 0) ≡ false → 0 < bare_len text → lexeme_at text ≡ Some (record { len = 1; kind = Mark Underscore })
underscore_is [] word digit pos = absurd (both_ways false refl word)
underscore_is (c ∷ cs) word digit pos =
    let none = bare-none (c ∷ cs) pos in
    let letter : is_in Letter c ≡ false = (or_parts (is_in Letter c) (has_letter (run cs)) (sym (ap has_letter (run-cons c cs word)) ∙ none.0)).0 in
    let line : c ≡ 95 = eqb-true c 95 (alphanumeric c word digit letter) in
    subst (λ b. lexeme_at (b ∷ cs) ≡ Some (record { len = 1; kind = Mark Underscore })) (sym line) (underscore_cons cs (subst (λ b. 0 < bare_len (b ∷ cs)) line pos))

-- ---- the same in the terms of the code

pub named_by_run : (text prefix : List ℕ) (n : ℕ) (found : Option LexKind) (kind : LexKind) → is_in WordChar (slice_index text 0) ≡ true → bare_len text ≡ 0 → n ≡ named_len text → n ≤ length text → prefix ≡ take n text → found ≡ table_kind prefix → kind ≡ unwrap_or found Name → Some (record { len = length prefix; kind = kind }) ≡ lexeme_at text
named_by_run text prefix n found kind word bare isn le isfront isfound iskind =
    let size : length prefix ≡ named_len text = ap length isfront ∙ length-take-le n text le ∙ isn in
    let k : kind ≡ unwrap_or (table_kind (take (named_len text) text)) Name = iskind ∙ ap (λ o. unwrap_or o Name) (isfound ∙ ap table_kind (isfront ∙ ap (λ i. take i text) isn)) in
    members (length prefix) (named_len text) kind (unwrap_or (table_kind (take (named_len text) text)) Name) size k ∙ sym (named_is text word bare)
  where
    members : (a b : ℕ) (j k : LexKind) → a ≡ b → j ≡ k → (let o : Option Member = Some (record { len = a; kind = j }) in o) ≡ Some (record { len = b; kind = k })
    members a b j k e f = cc

pub number_by_parts : (text : List ℕ) (digits point : ℕ) (rest : List ℕ) → is_in Digit (slice_index text 0) ≡ true → 0 < bare_len text → digits ≡ digits_len text → digits ≤ length text → rest ≡ drop digits text → point ≡ fraction_len rest → point ≤ length rest → Some (record { len = digits + point; kind = Number }) ≡ lexeme_at text
number_by_parts text digits point rest digit pos isdigits le isrest ispoint lep =
    let p : point ≡ point_len text = ispoint ∙ ap fraction_len (isrest ∙ ap (λ i. drop i text) isdigits) in
    let size : digits + point ≡ digits_len text + point_len text = omega (arith, isdigits, p) in
    some_member (digits + point) (digits_len text + point_len text) Number size ∙ sym (number_is text digit pos (omega (arith, size, lep, ap length isrest, length-drop digits text)))
