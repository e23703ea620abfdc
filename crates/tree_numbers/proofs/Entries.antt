-- Entries of a map: what is found in them, what is not, and what one more changes.
use Rattle.std.proofs.Common.{◌≡◌, ◌⊎◌, ℕ, zero, suc, Bool, true, false, cond, List, [], ◌∷◌, ◌++◌, None, Some, inl, inr, refl, sym, ap, ◌∙◌, length, subst}
use Rattle.std.specs.Prelude.{slice_get}
use Rattle.std.specs.List.{AllByRecursion}
use Rattle.std.specs.Map.{lookup}
use Rattle.std.proofs.lemmas.Map.{none_passes_from_lookup}
use Rattle.std.proofs.lemmas.Option.{slice_get_within}
use Rattle.list_laws.proofs.Lists.{at-end, pushed-cases}
use Rattle.kind_table.proofs.Unfolding.{slice_get-more}
use Rattle.tree_numbers.specs.Numbered.{AreApart, IsFirst, IsNumber, KeepsFirsts}

-- what holds of all items holds of the one at a place
pub all-at : {A : Type 0} (P : A → Type 0) (xs : List A) (i : ℕ) (x : A) → AllByRecursion P xs → slice_get xs i ≡ Some x → P x
all-at P [] zero x all at = cc
all-at P [] (suc i) x all at = cc
all-at P (y ∷ xs) zero x all at = let is : y ≡ x = cc in subst P is all.0
all-at P (y ∷ xs) (suc i) x all at = all-at P xs i x all.1 at

-- ---- what is found

module _ {K V : Type 0} (same : K → K → Bool) (P : K → V → Type 0) where
  -- the value of a key, where equal keys share a property
  pub entries-lookup : ((a b : K) (v : V) → same a b ≡ true → P b v → P a v) → (es : List (K × V)) (a : K) (v : V)
      → AllByRecursion (λ e. P e.0 e.1) es → lookup (same a) es ≡ Some v → P a v
  entries-lookup shared [] a v all found = cc
  entries-lookup shared (e ∷ es) a v all found = choice (entries-lookup shared es a v all.1) (same a e.0) refl found
    where
      choice : (lookup (same a) es ≡ Some v → P a v) → (b : Bool) → same a e.0 ≡ b → cond b (Some e.1) (lookup (same a) es) ≡ Some v → P a v
      choice rest true q r = let is : e.1 ≡ v = cc in subst (P a) is (shared a e.0 e.1 q all.0)
      choice rest false q r = rest r

module _ {K : Type 0} (test : K → Bool) where
  -- what is found stands there
  pub found-first : (es : List (K × ℕ)) (n : ℕ) → lookup test es ≡ Some n → IsFirst es n
  found-first [] n found = cc
  found-first (e ∷ es) n found = choice (found-first es n) (test e.0) found
    where
      choice : (lookup test es ≡ Some n → IsFirst es n) → (b : Bool) → cond b (Some e.1) (lookup test es) ≡ Some n → IsFirst (e ∷ es) n
      choice rest true r = let is : e.1 ≡ n = cc in (zero, e.0, ap (λ m. Some (e.0, m)) is)
      choice rest false r = let first = rest r in (suc first.0, first.1, first.2)

  -- where nothing is found, no key passes
  pub none-passes : {V : Type 0} (es : List (K × V)) (i : ℕ) (e : K × V) → lookup test es ≡ None → slice_get es i ≡ Some e → test e.0 ≡ false
  none-passes es i e none at = all-at (λ e. test e.0 ≡ false) es i e (none_passes_from_lookup test es none) at

-- ---- one more

module _ {K : Type 0} (es : List (K × ℕ)) (a : K) (n : ℕ) where
  pub firsts-kept : KeepsFirsts es (es ++ (a, n) ∷ [])
  firsts-kept m first = (first.0, first.1, slice_get-more es ((a, n) ∷ []) first.0 (slice_get_within es first.0 (first.1, m) first.2) ∙ first.2)

  pub first-there : IsFirst (es ++ (a, n) ∷ []) n
  first-there = (length es, a, at-end es (a, n))

  first-cases : (m : ℕ) → IsFirst (es ++ (a, n) ∷ []) m → IsFirst es m ⊎ (n ≡ m)
  first-cases m first = elim (pushed-cases es (a, n) (first.1, m) first.0 first.2) as (λ _. IsFirst es m ⊎ (n ≡ m)) [ inl before ↦ inl (first.0, first.1, before) | inr last ↦ inr (ap (λ (e : K × ℕ). e.1) last.1) ]

  -- one that is seen as none before it
  pub apart-more : {A : Type 0} (seen : ℕ → A) → AreApart seen (IsFirst es) → ((m : ℕ) → IsFirst es m → seen n ≡ seen m → ⊥) → AreApart seen (IsFirst (es ++ (a, n) ∷ []))
  apart-more seen apart other l m at_l at_m same = by (first-cases l at_l) (first-cases m at_m)
    where
      by : IsFirst es l ⊎ (n ≡ l) → IsFirst es m ⊎ (n ≡ m) → l ≡ m
      by (inl before) (inl earlier) = apart l m before earlier same
      by (inl before) (inr last) = absurd (other l before (ap seen last ∙ sym same))
      by (inr last) (inl earlier) = absurd (other m earlier (ap seen last ∙ same))
      by (inr last) (inr behind) = sym last ∙ behind

module _ (numbers : List ℕ) (x : ℕ) where
  pub numbers-kept : (n : ℕ) → IsNumber numbers n → IsNumber (numbers ++ x ∷ []) n
  numbers-kept n number = (number.0, slice_get-more numbers (x ∷ []) number.0 (slice_get_within numbers number.0 n number.1) ∙ number.1)

  pub number-cases : (n : ℕ) → IsNumber (numbers ++ x ∷ []) n → IsNumber numbers n ⊎ (x ≡ n)
  number-cases n number = elim (pushed-cases numbers x n number.0 number.1) as (λ _. IsNumber numbers n ⊎ (x ≡ n)) [ inl before ↦ inl (number.0, before) | inr last ↦ inr last.1 ]
