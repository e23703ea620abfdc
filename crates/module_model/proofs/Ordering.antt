-- Diagnostics in order.
use Rattle.std.proofs.Common.{◌≡◌, ◌<◌, ℕ, zero, suc, Bool, true, ◌&&◌, ◌||◌, List, [], ◌∷◌, Some, nat_eq, nat_lt, refl, sym, ap, ◌∙◌, subst, inl, inr, get_or, arith}
use mathlib.Core.Path.{fun_ext}
use Rattle.std.specs.Prelude.{◌⊎◌, Contains, slice_get}
use Rattle.std.specs.Cmp.{IsTotalOrder, IsEquivalence}
use Rattle.std.specs.List.{dedup}
use Rattle.std.specs.List.Sorted.{IsPermutation, IsSorted, IsStrictlySortedBy}
use Rattle.std.specs.Ordering.{nat_cmp, ordering_reverse, ordering_then, is_lt, is_eq, eq_by_cmp}
use Rattle.std.specs.declared.cmp.Ordering.{Ordering}
use Rattle.std.specs.declared.cmp.Ordering.TheVariants.{Less, Equal, Greater}
use Rattle.std.proofs.lemmas.Bool.Decides.{nat_tests}
use Rattle.std.proofs.lemmas.Cmp.{nat_cmp_total, on_total, then_total, eq_by_cmp_equiv}
use Rattle.std.proofs.lemmas.List.Kept.{Contains-dedup, Contains-from_dedup, IsStrictlySortedBy-dedup}
use Rattle.std.proofs.lemmas.List.Sorted.{Contains-permutation, IsPermutation-sym}
use Rattle.std.proofs.lemmas.Map.Keys.{Less-from_sorted}
use Rattle.std.proofs.lemmas.Option.{slice_get_within, get_or_from_slice_get, slice_get-get_or}
use Rattle.list_laws.proofs.Tests.{and-both, less-is}
use Rattle.list_laws.proofs.Lists.{first-there}
use Rattle.tla_model.specs.declared.Diagnostic.{Diagnostic}
use Rattle.module_model.specs.Bindings.{AreInOrder, is_before}

-- by the start, then the end, then the code
abbrev pub by_place : Diagnostic → Diagnostic → Ordering
by_place a b = ordering_then (ordering_then (nat_cmp a.span.start b.span.start) (nat_cmp a.span.end b.span.end)) (nat_cmp a.code b.code)

pub place-total : IsTotalOrder by_place
place-total = then_total (then_total (on_total (λ d. d.span.start) nat_cmp_total) (on_total (λ d. d.span.end) nat_cmp_total)) (on_total (λ d. d.code) nat_cmp_total)

abbrev pub same_fault : Diagnostic → Diagnostic → Bool
same_fault a b = nat_eq a.code b.code && (nat_eq a.span.start b.span.start && nat_eq a.span.end b.span.end)

eq-numbers : (m n : ℕ) → nat_eq m n ≡ is_eq (nat_cmp m n)
eq-numbers m n = grind (arith, nat_tests)

lt-numbers : (m n : ℕ) → nat_lt m n ≡ is_lt (nat_cmp m n)
lt-numbers m n = grind (arith, nat_tests)

same-cases : (o p q : Ordering) → (is_eq q && (is_eq o && is_eq p)) ≡ is_eq (ordering_then (ordering_then o p) q)
same-cases Less p Less = refl
same-cases Less p Equal = refl
same-cases Less p Greater = refl
same-cases Greater p Less = refl
same-cases Greater p Equal = refl
same-cases Greater p Greater = refl
same-cases Equal Less Less = refl
same-cases Equal Less Equal = refl
same-cases Equal Less Greater = refl
same-cases Equal Greater Less = refl
same-cases Equal Greater Equal = refl
same-cases Equal Greater Greater = refl
same-cases Equal Equal Less = refl
same-cases Equal Equal Equal = refl
same-cases Equal Equal Greater = refl

before-cases : (o p q : Ordering) → (is_lt o || (is_eq o && (is_lt p || (is_eq p && is_lt q)))) ≡ is_lt (ordering_then (ordering_then o p) q)
before-cases Less p q = refl
before-cases Greater p q = refl
before-cases Equal Less q = refl
before-cases Equal Greater q = refl
before-cases Equal Equal q = refl

same-by : (o p q : Ordering) (code start end : Bool) → code ≡ is_eq q → start ≡ is_eq o → end ≡ is_eq p → (code && (start && end)) ≡ is_eq (ordering_then (ordering_then o p) q)
same-by o p q code start end e f g = rw (e, f, g) (same-cases o p q)

pub same-place : (a b : Diagnostic) → same_fault a b ≡ eq_by_cmp by_place a b
same-place a b =
    same-by (nat_cmp a.span.start b.span.start) (nat_cmp a.span.end b.span.end) (nat_cmp a.code b.code) _ _ _
    (eq-numbers a.code b.code) (eq-numbers a.span.start b.span.start) (eq-numbers a.span.end b.span.end)

before-by : (o p q : Ordering) (start at_start end at_end code : Bool) → start ≡ is_lt o → at_start ≡ is_eq o → end ≡ is_lt p → at_end ≡ is_eq p → code ≡ is_lt q → (start || (at_start && (end || (at_end && code)))) ≡ is_lt (ordering_then (ordering_then o p) q)
before-by o p q start at_start end at_end code e f g h k = rw (e, f, g, h, k) (before-cases o p q)

before-place : (a b : Diagnostic) → is_before a b ≡ is_lt (by_place a b)
before-place a b =
    before-by (nat_cmp a.span.start b.span.start) (nat_cmp a.span.end b.span.end) (nat_cmp a.code b.code) _ _ _ _ _
    (lt-numbers a.span.start b.span.start) (eq-numbers a.span.start b.span.start) (lt-numbers a.span.end b.span.end) (eq-numbers a.span.end b.span.end) (lt-numbers a.code b.code)

same-fault : (a b : Diagnostic) → same_fault a b ≡ true → a ≡ b
same-fault a b e =
    let code = and-both (nat_eq a.code b.code) _ e in let span = and-both (nat_eq a.span.start b.span.start) _ code.1 in
    grind (arith, nat_tests, code.0, span.0, span.1)

-- what a sort and a dedup leave
pub sorted-in-order : (all sorted found : List Diagnostic) → IsPermutation all sorted → IsSorted by_place sorted → found ≡ dedup same_fault sorted → AreInOrder all found
sorted-in-order all sorted found moved up is = rw is (record {
  same = λ fault. (
    λ there. Contains-permutation sorted all fault (IsPermutation-sym all sorted moved) (Contains-from_dedup same_fault sorted fault there),
    λ there. Contains-dedup equal same-fault sorted fault (Contains-permutation all sorted fault moved there),
  );
  ordered = λ i j a b at_i at_j less.
      before-place a b
      ∙ ap is_lt
      (ap (λ z. by_place z b) (sym (get_or_from_slice_get kept i a a at_i))
      ∙ ap (λ z. by_place (get_or kept i a) z) (sym (get_or_from_slice_get kept j b a at_j))
      ∙ Less-from_sorted by_place kept i j a strictly less (slice_get_within kept j b at_j));
})
  where
    kept : List Diagnostic
    kept = dedup same_fault sorted

    equal : IsEquivalence same_fault
    equal = subst IsEquivalence (sym (fun_ext (λ a. fun_ext (same-place a)))) (eq_by_cmp_equiv place-total)

    strictly : IsStrictlySortedBy by_place kept
    strictly = IsStrictlySortedBy-dedup place-total same-place sorted up

-- ---- one order

-- where each stands before the later ones
abbrev Rises : List Diagnostic → Type 0
Rises found = (i j : ℕ) (a b : Diagnostic) → slice_get found i ≡ Some a → slice_get found j ≡ Some b → i < j → is_before a b ≡ true

rises-tail : (x : Diagnostic) (xs : List Diagnostic) → Rises (x ∷ xs) → Rises xs
rises-tail x xs rises = λ i j a b at_i at_j less. rises (suc i) (suc j) a b at_i at_j (omega (arith, less))

stands : (xs : List Diagnostic) (x : Diagnostic) → Contains xs x → (k : ℕ) × (slice_get xs k ≡ Some x)
stands xs x there = (there.0, slice_get-get_or xs there.0 x there.1 ∙ ap Some there.2)

rises-head : (x y : Diagnostic) (xs : List Diagnostic) → Rises (x ∷ xs) → Contains xs y → is_before x y ≡ true
rises-head x y xs rises there = let at = stands xs y there in rises zero (suc at.0) x y refl at.1 (omega arith)

later-of : (x y : Diagnostic) (xs : List Diagnostic) → Contains xs y → Contains (x ∷ xs) y
later-of x y xs there = (suc there.0, omega (arith, there.1), there.2)

first-or-later : (x y : Diagnostic) (xs : List Diagnostic) → Contains (x ∷ xs) y → (x ≡ y) ⊎ Contains xs y
first-or-later x y xs (zero, low, is) = inl is
first-or-later x y xs (suc k, low, is) = inr (k, omega (arith, low), is)

none-there : (x : Diagnostic) → Contains [] x → ⊥
none-there x there = absurd (omega (arith, there.1))

-- no diagnostic stands before one that stands before it
not-both : (a b : Diagnostic) → is_before a b ≡ true → is_before b a ≡ true → ⊥
not-both a b before behind =
    let one : by_place a b ≡ Less = less-is (by_place a b) (sym (before-place a b) ∙ before) in
    let other : by_place b a ≡ Less = less-is (by_place b a) (sym (before-place b a) ∙ behind) in
    let turned : Less ≡ Greater = sym one ∙ place-total.antisymm a b ∙ ap ordering_reverse other in
    cc

not-itself : (a b : Diagnostic) → a ≡ b → is_before a b ≡ true → ⊥
not-itself a b same before = not-both a b before (subst (λ z. is_before z a ≡ true) same (subst (λ z. is_before a z ≡ true) (sym same) before))

abbrev Holds : List Diagnostic → List Diagnostic → Type 0
Holds found other = (x : Diagnostic) → Contains found x → Contains other x

heads-same : (x y : Diagnostic) (xs ys : List Diagnostic) → Rises (x ∷ xs) → Rises (y ∷ ys) → Contains (y ∷ ys) x → Contains (x ∷ xs) y → x ≡ y
heads-same x y xs ys rises rises' there there' = elim (first-or-later y x ys there) as (λ _. x ≡ y) [
  | inl same ↦ sym same
  | inr later ↦ elim (first-or-later x y xs there') as (λ _. x ≡ y) [
    | inl same ↦ same
    | inr later' ↦ absurd (not-both x y (rises-head x y xs rises later') (rises-head y x ys rises' later))
  ]
]

holds-tail : (x y : Diagnostic) (xs ys : List Diagnostic) → x ≡ y → Rises (x ∷ xs) → Holds (x ∷ xs) (y ∷ ys) → Holds xs ys
holds-tail x y xs ys same rises holds = λ z there. elim (first-or-later y z ys (holds z (later-of x z xs there))) as (λ _. Contains ys z) [
  | inl first ↦ absurd (not-itself x z (same ∙ first) (rises-head x z xs rises there))
  | inr later ↦ later
]

lists-same : (xs ys : List Diagnostic) → Rises xs → Rises ys → Holds xs ys → Holds ys xs → xs ≡ ys
lists-same [] [] rises rises' holds holds' = refl
lists-same [] (y ∷ ys) rises rises' holds holds' = absurd (none-there y (holds' y (first-there y ys)))
lists-same (x ∷ xs) [] rises rises' holds holds' = absurd (none-there x (holds x (first-there x xs)))
lists-same (x ∷ xs) (y ∷ ys) rises rises' holds holds' =
    let same : x ≡ y = heads-same x y xs ys rises rises' (holds x (first-there x xs)) (holds' y (first-there y ys)) in
    let rest : xs ≡ ys = lists-same xs ys (rises-tail x xs rises) (rises-tail y ys rises') (holds-tail x y xs ys same rises holds) (holds-tail y x ys xs (sym same) rises' holds') in
    ap (λ z. z ∷ xs) same ∙ ap (λ z. y ∷ z) rest

pub order-is-one : (all found other : List Diagnostic) → AreInOrder all found → AreInOrder all other → found ≡ other
order-is-one all found other one two =
    lists-same found other one.ordered two.ordered (λ x there. (two.same x).1 ((one.same x).0 there)) (λ x there. (one.same x).1 ((two.same x).0 there))

nothing : (xs : List Diagnostic) → ((x : Diagnostic) → Contains xs x → ⊥) → xs ≡ []
nothing [] none = refl
nothing (x ∷ xs) none = absurd (none x (first-there x xs))

pub none-found : (found : List Diagnostic) → AreInOrder [] found → found ≡ []
none-found found order = nothing found (λ x there. none-there x ((order.same x).0 there))

pub none-at-all : (all : List Diagnostic) → AreInOrder all [] → all ≡ []
none-at-all all order = nothing all (λ x there. none-there x ((order.same x).1 there))
