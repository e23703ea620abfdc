-- The kind of a spelling, by its first byte.
use Rattle.std.proofs.Common.{◌≡◌, ℕ, zero, suc, ◌+◌, ◌<◌, ◌≤◌, true, false, ◌&&◌, eqb, cond, List, ◌∷◌, length, take, Option, Some, None, refl, ap, ◌∙◌, subst, arith}
use Rattle.std.specs.Option.{option_or}
use Rattle.std.proofs.lemmas.Bool.{and_left, and_right, or_from, both_ways, eqb-true, cond-true, cond-false, false_from_ne_true}
use Rattle.std.specs.List.{list_all}
use Rattle.tla_symbols.specs.declared.lexeme.LexKind.{LexKind}
use Rattle.tla_symbols.specs.declared.lexeme.LexKind.TheVariants.{Name, Number, Str, Dashes, Equals}
use Rattle.tla_lexeme.specs.declared.class.Class.{Class}
use Rattle.tla_lexeme.specs.declared.class.Class.TheVariants.{WordChar, Digit, Dash, EqualSign}
use Rattle.tla_lexeme.specs.LexemeSets.{is_in, is_run, is_name, is_number, is_fraction, is_based, is_string, is_long_run, table_kind, open_kind, kind_of, closes_string}
use Rattle.tla_lexeme.proofs.SetLemmas.{digits_len, point_len, fraction-le, run-le}

pub from_suc : (P : ℕ → Type 0) (n : ℕ) → ((k : ℕ) → n < suc k → P (suc k)) → (m : ℕ) → n < m → P m
from_suc P n f zero h = absurd (omega arith)
from_suc P n f (suc k) h = f k h

option_or-none : {A : Type 0} (o : Option A) → option_or o None ≡ o
option_or-none None = refl
option_or-none (Some x) = refl

pub kind-open : (w : List ℕ) → table_kind w ≡ None → kind_of w ≡ open_kind w
kind-open w h = ap (λ o. option_or o (open_kind w)) h

pub kind-table : (w : List ℕ) → open_kind w ≡ None → kind_of w ≡ table_kind w
kind-table w h = ap (λ o. option_or (table_kind w) o) h ∙ option_or-none (table_kind w)

-- ---- the open sets, one after the other

after_string : List ℕ → Option LexKind
after_string w = cond (is_long_run Dash w) (Some Dashes) (cond (is_long_run EqualSign w) (Some Equals) None)

pub open-name : (w : List ℕ) → is_name w ≡ true → open_kind w ≡ Some Name
open-name w n = cond-true (is_name w) _ _ n

pub open-number : (w : List ℕ) → is_name w ≡ false → is_number w ≡ true → open_kind w ≡ Some Number
open-number w n m = cond-false (is_name w) _ _ n ∙ cond-true (is_number w) _ _ m

pub open-string : (w : List ℕ) → is_name w ≡ false → is_number w ≡ false → is_string w ≡ true → open_kind w ≡ Some Str
open-string w n m s = cond-false (is_name w) _ _ n ∙ cond-false (is_number w) _ _ m ∙ cond-true (is_string w) _ _ s

pub open-dashes : (w : List ℕ) → is_name w ≡ false → is_number w ≡ false → is_string w ≡ false → is_long_run Dash w ≡ true → open_kind w ≡ Some Dashes
open-dashes w n m s d = cond-false (is_name w) _ _ n ∙ cond-false (is_number w) _ _ m ∙ cond-false (is_string w) _ _ s ∙ cond-true (is_long_run Dash w) _ _ d

pub open-equals : (w : List ℕ) → is_name w ≡ false → is_number w ≡ false → is_string w ≡ false → is_long_run Dash w ≡ false → is_long_run EqualSign w ≡ true → open_kind w ≡ Some Equals
open-equals w n m s d e = cond-false (is_name w) _ _ n ∙ cond-false (is_number w) _ _ m ∙ cond-false (is_string w) _ _ s ∙ cond-false (is_long_run Dash w) _ _ d ∙ cond-true (is_long_run EqualSign w) _ _ e

pub open-nothing : (w : List ℕ) → is_name w ≡ false → is_number w ≡ false → is_string w ≡ false → is_long_run Dash w ≡ false → is_long_run EqualSign w ≡ false → open_kind w ≡ None
open-nothing w n m s d e = cond-false (is_name w) _ _ n ∙ cond-false (is_number w) _ _ m ∙ cond-false (is_string w) _ _ s ∙ cond-false (is_long_run Dash w) _ _ d ∙ cond-false (is_long_run EqualSign w) _ _ e

-- ---- what the first byte rules out

pub not-byte : (class : Class) (k c : ℕ) → is_in class k ≡ false → is_in class c ≡ true → eqb c k ≡ false
not-byte class k c f t = false_from_ne_true (eqb c k) (λ e. both_ways (is_in class k) f (subst (λ n. is_in class n ≡ true) (eqb-true c k e) t))

pub name-first : (c : ℕ) (w : List ℕ) → is_in WordChar c ≡ false → is_name (c ∷ w) ≡ false
name-first c w h = and_left _ _ (and_left _ _ (and_left (is_in WordChar c) (list_all (is_in WordChar) w) h))

pub string-first : (c : ℕ) (w : List ℕ) → eqb c 34 ≡ false → is_string (c ∷ w) ≡ false
string-first c w h = and_left (eqb c 34) (closes_string false w) h

pub long-first : (class : Class) (c : ℕ) (w : List ℕ) → is_in class c ≡ false → is_long_run class (c ∷ w) ≡ false
long-first class c w h = and_right _ _ (and_left (is_in class c) (list_all (is_in class) w) h)

pub based-first : (c : ℕ) (w : List ℕ) → eqb c 92 ≡ false → is_based (c ∷ w) ≡ false
based-first c w h = and_left _ _ h

pub run-first : (c : ℕ) (w : List ℕ) → is_in Digit c ≡ false → is_run Digit (c ∷ w) ≡ false
run-first c w h = and_left (is_in Digit c) (list_all (is_in Digit) w) h

pub fraction-first : (c : ℕ) (w : List ℕ) → eqb c 46 ≡ false → is_in Digit c ≡ false → is_fraction (c ∷ w) ≡ false
fraction-first c w p h = cond-false (eqb c 46) (is_run Digit w) (is_in Digit c && is_fraction w) p ∙ and_left (is_in Digit c) (is_fraction w) h

pub number-none : (w : List ℕ) → is_run Digit w ≡ false → is_fraction w ≡ false → is_based w ≡ false → is_number w ≡ false
number-none w r f b = or_from _ _ (or_from (is_run Digit w) (is_fraction w) r f) b

-- no number is longer than the digits, and the point with its digits
pub number-long : (m : ℕ) (xs : List ℕ) → m ≤ length xs → digits_len xs + point_len xs < m → is_based (take m xs) ≡ false → is_number (take m xs) ≡ false
number-long m xs l h b =
    number-none (take m xs) (false_from_ne_true (is_run Digit (take m xs)) (λ yes. let le = run-le Digit m xs l yes in omega (arith, le.0, h)))
    (false_from_ne_true (is_fraction (take m xs)) (λ yes. let le = fraction-le m xs l yes in omega (arith, le.0, h)))
    b

-- at a word character only names and numbers begin
pub word-first : (c : ℕ) (w : List ℕ) → is_in WordChar c ≡ true → is_name (c ∷ w) ≡ false → is_number (c ∷ w) ≡ false → open_kind (c ∷ w) ≡ None
word-first c w word n m =
    open-nothing (c ∷ w) n m (string-first c w (not-byte WordChar 34 c refl word)) (long-first Dash c w (not-byte WordChar 45 c refl word)) (long-first EqualSign c w (not-byte WordChar 61 c refl word))
