-- What no reserved word, symbol or mark is.
use Rattle.std.proofs.Common.{◌≡◌, ℕ, Bool, true, false, not, ◌&&◌, ◌||◌, eqb, leb, cond, List, [], ◌∷◌, length, Some, None, refl, ap, ◌∙◌, subst, ⊎_elim}
use Rattle.std.proofs.lemmas.Bool.{cases_Bool, and_parts, both_ways}
use Rattle.std.proofs.lemmas.Slice.Eq.{bytes_eq-Decides}
use Rattle.std.specs.List.{list_all}
use Rattle.std.specs.Str.{bytes_eq}
use Rattle.tla_spelling.specs.Spellings.{Table, in_table, WORDS, SYMBOLS, MARKS}
use Rattle.tla_lexeme.specs.declared.class.Class.TheVariants.{WordChar, Digit}
use Rattle.tla_lexeme.specs.LexemeSets.{is_in, table_kind, is_fair}
use Rattle.tla_lexeme.specs.Lengths.{has_letter, open_sign, goes_on, most_further}

missed : {M : Type 0} (test : List ℕ → Bool) (table : Table M) (w : List ℕ) → list_all (λ e. test e.0) table ≡ true → test w ≡ false → in_table table w ≡ None
missed test [] w all fails = refl
missed test (e ∷ es) w all fails =
    let parts = and_parts (test e.0) (list_all (λ x. test x.0) es) all in
    ⊎_elim
    (λ (same : bytes_eq e.0 w ≡ true). absurd (both_ways (test w) fails (subst (λ l. test l ≡ true) ((bytes_eq-Decides e.0 w).0 same) parts.0)))
    (λ (other : bytes_eq e.0 w ≡ false). ap (λ b. cond b (Some e.1) (in_table es w)) other ∙ missed test es w parts.1 fails)
    (cases_Bool (bytes_eq e.0 w))

-- a test that each spelling of the tables passes
abbrev all_pass : (List ℕ → Bool) → Bool
all_pass test = list_all (λ e. test e.0) WORDS && list_all (λ e. test e.0) SYMBOLS && list_all (λ e. test e.0) MARKS

none_from : (test : List ℕ → Bool) (w : List ℕ) → all_pass test ≡ true → test w ≡ false → table_kind w ≡ None
none_from test w all fails =
    let outer = and_parts (list_all (λ e. test e.0) WORDS && list_all (λ e. test e.0) SYMBOLS) (list_all (λ e. test e.0) MARKS) all in
    let inner = and_parts (list_all (λ e. test e.0) WORDS) (list_all (λ e. test e.0) SYMBOLS) outer.0 in
    rw (missed test WORDS w inner.0 fails, missed test SYMBOLS w inner.1 fails, missed test MARKS w outer.1 fails) refl

-- ---- the tests

abbrev pub first_is : (ℕ → Bool) → List ℕ → Bool
first_is test [] = false
first_is test (c ∷ cs) = test c

-- a spelling that begins with a word character has no others, and a letter if it is not alone
abbrev pub is_word_spelling : List ℕ → Bool
is_word_spelling w = not (first_is (is_in WordChar) w) || (list_all (is_in WordChar) w && (leb (length w) 1 || has_letter w) && not (is_fair w))

abbrev pub has_no_digit_first : List ℕ → Bool
has_no_digit_first w = not (first_is (is_in Digit) w)

abbrev pub has_no_quote_first : List ℕ → Bool
has_no_quote_first w = not (first_is (λ c. eqb c 34) w)

-- no number and no long run begins a spelling
abbrev pub is_not_open : List ℕ → Bool
is_not_open w = eqb (open_sign w).len 0

abbrev pub goes_on_short : List ℕ → Bool
goes_on_short [] = false
goes_on_short (c ∷ cs) = is_in WordChar c || (leb (length cs) (most_further c) && list_all (goes_on c) cs)

pub word-none : (w : List ℕ) → is_word_spelling w ≡ false → table_kind w ≡ None
word-none w h = none_from is_word_spelling w refl h

pub digit-none : (w : List ℕ) → has_no_digit_first w ≡ false → table_kind w ≡ None
digit-none w h = none_from has_no_digit_first w refl h

pub quote-none : (w : List ℕ) → has_no_quote_first w ≡ false → table_kind w ≡ None
quote-none w h = none_from has_no_quote_first w refl h

pub open-none : (w : List ℕ) → is_not_open w ≡ false → table_kind w ≡ None
open-none w h = none_from is_not_open w refl h

pub sign-none : (w : List ℕ) → goes_on_short w ≡ false → table_kind w ≡ None
sign-none w h = none_from goes_on_short w refl h

-- ---- the last byte

-- the last byte of one byte and others
abbrev pub last : ℕ → List ℕ → ℕ
last c [] = c
last c (d ∷ ds) = last d ds

abbrev pub is_low_last : List ℕ → Bool
is_low_last [] = true
is_low_last (c ∷ cs) = leb (last c cs) 127

pub low-none : (w : List ℕ) → is_low_last w ≡ false → table_kind w ≡ None
low-none w h = none_from is_low_last w refl h
