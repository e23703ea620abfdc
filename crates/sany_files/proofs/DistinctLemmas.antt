-- Names that stand but once.
use Rattle.std.proofs.Common.{◌≡◌, ℕ, zero, suc, ◌-◌, ◌<◌, List, [], ◌∷◌, ◌++◌, length, take, get_or, Option, Some, None, Bool, true, false, ◌&&◌, if◌then◌else◌, codes, nat_eq, refl, ap, ◌∙◌, subst, arith, slice_get, ⊎_elim}
use Rattle.std.specs.List.{filter_map, cons_option, ends_with, IsDistinct}
use Rattle.std.specs.List.Sorted.{IsStrictlySortedBy}
use Rattle.std.specs.Ordering.{nat_cmp, eq_by_cmp}
use Rattle.std.specs.Str.{bytes_eq}
use Rattle.std.specs.Cmp.Lexicographic.{slice_cmp}
use Rattle.std.proofs.lemmas.Bool.{cases_order}
use Rattle.std.proofs.lemmas.Bool.Decides.{Decides-eqb}
use Rattle.std.proofs.lemmas.Map.Keys.{IsDistinct-from_sorted, apart_from_distinct}
use Rattle.std.proofs.lemmas.Map.Text.{is_eq-slice_cmp}
use Rattle.std.proofs.lemmas.Option.{get_or_from_slice_get, slice_get_within}
use Rattle.std.proofs.lemmas.Slice.Eq.{bytes_eq-Decides, ends_is}

-- no item stands twice
abbrev pub AreApart : {X : Type 0} → List X → Type 0
AreApart {X} xs = (i j : ℕ) (a : X) → slice_get xs i ≡ Some a → slice_get xs j ≡ Some a → i ≡ j

-- ---- names that differ

not-below : (names : List (List ℕ)) (i j : ℕ) (a : List ℕ) → IsDistinct bytes_eq names → slice_get names i ≡ Some a → slice_get names j ≡ Some a → i < j → ⊥
not-below names i j a distinct at_i at_j lt =
    let apart = apart_from_distinct bytes_eq names i j a distinct lt (slice_get_within names j a at_j) in
    let same : bytes_eq a a ≡ true = (bytes_eq-Decides a a).1 refl in
    let one : bytes_eq (get_or names i a) (get_or names j a) ≡ bytes_eq a a =
    ap (λ x. bytes_eq x (get_or names j a)) (get_or_from_slice_get names i a a at_i) ∙ ap (λ x. bytes_eq a x) (get_or_from_slice_get names j a a at_j) in
    absurd (cc)

pub distinct-apart : (names : List (List ℕ)) → IsDistinct bytes_eq names → AreApart names
distinct-apart names distinct = λ i j a at_i at_j.
    ⊎_elim (λ e. e)
    (λ apart. ⊎_elim (λ lt. absurd (not-below names i j a distinct at_i at_j lt)) (λ lt. absurd (not-below names j i a distinct at_j at_i lt)) apart)
    (cases_order i j)

-- names in strict order
pub sorted-apart : (names : List (List ℕ)) → IsStrictlySortedBy (slice_cmp nat_cmp) names → AreApart names
sorted-apart names sorted =
    let bytes : eq_by_cmp (slice_cmp nat_cmp) ≡ bytes_eq = λ i. λ a. λ b. is_eq-slice_cmp a b i in
    distinct-apart names (subst (λ eq. IsDistinct eq names) bytes (IsDistinct-from_sorted (slice_cmp nat_cmp) names sorted))

-- ---- what stands for items

module _ {X Y : Type 0} (h : X → Option Y) where
  -- an item of a list that stands for something
  abbrev pub IsOf : List X → Y → Type 0
  IsOf xs y = (at : ℕ) × (x : X) × (slice_get xs at ≡ Some x) × (h x ≡ Some y)

  of-cons : (x : X) (xs : List X) (found : List Y) (o : Option Y) → h x ≡ o → ((k : ℕ) (y : Y) → slice_get found k ≡ Some y → IsOf xs y) →
      (k : ℕ) (y : Y) → slice_get (cons_option o found) k ≡ Some y → IsOf (x ∷ xs) y
  of-cons x xs found None is rest k y e = let w = rest k y e in (suc w.0, w.1, w.2, w.3)
  of-cons x xs found (Some z) is rest zero y e = (0, x, refl, is ∙ e)
  of-cons x xs found (Some z) is rest (suc k) y e = let w = rest k y e in (suc w.0, w.1, w.2, w.3)

  filter_map-of : (xs : List X) (k : ℕ) (y : Y) → slice_get (filter_map h xs) k ≡ Some y → IsOf xs y
  filter_map-of [] k y e = absurd (cc)
  filter_map-of (x ∷ xs) k y e = of-cons x xs (filter_map h xs) (h x) refl (filter_map-of xs) k y e

  module _ (injective : (a b : X) (y : Y) → h a ≡ Some y → h b ≡ Some y → a ≡ b) where
    no-later : (x : X) (xs : List X) (y : Y) → AreApart (x ∷ xs) → h x ≡ Some y → IsOf xs y → ⊥
    no-later x xs y apart is w =
        let same : x ≡ w.1 = injective x w.1 y is w.3 in
        let no : 0 ≡ suc w.0 = apart 0 (suc w.0) w.1 (ap (λ a. Some a) same) w.2 in
        omega arith

    apart-cons : (x : X) (xs : List X) (found : List Y) (o : Option Y) → h x ≡ o → AreApart (x ∷ xs) → ((k : ℕ) (y : Y) → slice_get found k ≡ Some y → IsOf xs y) → AreApart found → AreApart (cons_option o found)
    apart-cons x xs found None is apart of rest = rest
    apart-cons x xs found (Some z) is apart of rest = go
      where
        go : (i j : ℕ) (y : Y) → slice_get (z ∷ found) i ≡ Some y → slice_get (z ∷ found) j ≡ Some y → i ≡ j
        go zero zero y e f = refl
        go zero (suc j) y e f = absurd (no-later x xs y apart (is ∙ e) (of j y f))
        go (suc i) zero y e f = absurd (no-later x xs y apart (is ∙ f) (of i y e))
        go (suc i) (suc j) y e f = ap (λ n. suc n) (rest i j y e f)

    apart-tail : (x : X) (xs : List X) → AreApart (x ∷ xs) → AreApart xs
    apart-tail x xs apart i j a e f = let same : suc i ≡ suc j = apart (suc i) (suc j) a e f in omega (arith, same)

    pub filter_map-apart : (xs : List X) → AreApart xs → AreApart (filter_map h xs)
    filter_map-apart [] apart = λ i j a e f. absurd (cc)
    filter_map-apart (x ∷ xs) apart = apart-cons x xs (filter_map h xs) (h x) refl apart (filter_map-of xs) (filter_map-apart xs (apart-tail x xs apart))
