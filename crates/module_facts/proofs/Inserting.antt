-- Diagnostics that are put in one by one stand in order.
use Rattle.std.proofs.Common.{◌≡◌, ◌<◌, ℕ, zero, suc, Bool, true, false, ◌&&◌, ◌||◌, List, [], ◌∷◌, Some, nat_eq, nat_lt, refl, sym, ap, ◌∙◌, subst, inl, inr, cond, arith, ⊎_elim}
use Rattle.std.specs.Prelude.{◌⊎◌, Contains, slice_get}
use Rattle.std.proofs.lemmas.Bool.{and_from, cases_lt, lt-ltb, or_left, or_right}
use Rattle.std.proofs.lemmas.Bool.Decides.{nat_tests}
use Rattle.std.proofs.lemmas.Option.{get_or_from_slice_get, slice_get_within}
use Rattle.tla_model.specs.declared.Diagnostic.{Diagnostic}
use Rattle.module_model.specs.Bindings.{AreInOrder, is_before}
use Rattle.list_laws.proofs.Lists.{first-there}
use Rattle.module_facts.specs.Ordered.{in_order, with_one}

-- ---- what comes before what

-- by the start, then the end, then the code
data Before (a b : Diagnostic) : Type 0 where
  by_start : a.span.start < b.span.start → Before a b
  by_end : a.span.start ≡ b.span.start → a.span.end < b.span.end → Before a b
  by_code : a.span.start ≡ b.span.start → a.span.end ≡ b.span.end → a.code < b.code → Before a b

-- either may come before the other, or they are one
data Compared (a b : Diagnostic) : Type 0 where
  before : Before a b → Compared a b
  behind : Before b a → Compared a b
  same : a ≡ b → Compared a b

less-or-more : (m n : ℕ) → (m < n) ⊎ ((n < m) ⊎ (m ≡ n))
less-or-more m n = ⊎_elim (λ (l : m < n). inl l) (λ h. ⊎_elim (λ (l : n < m). inr (inl l)) (λ k. inr (inr (omega (arith, h, k)))) (cases_lt n m)) (cases_lt m n)

compared : (a b : Diagnostic) → Compared a b
compared a b = elim (less-or-more a.span.start b.span.start) as (λ _. Compared a b) [
  | inl l ↦ before (by_start l)
  | inr (inl g) ↦ behind (by_start g)
  | inr (inr s) ↦ elim (less-or-more a.span.end b.span.end) as (λ _. Compared a b) [
    | inl l ↦ before (by_end s l)
    | inr (inl g) ↦ behind (by_end (sym s) g)
    | inr (inr e) ↦ elim (less-or-more a.code b.code) as (λ _. Compared a b) [
      | inl l ↦ before (by_code s e l)
      | inr (inl g) ↦ behind (by_code (sym s) (sym e) g)
      | inr (inr c) ↦ same (λ i. record { code = c i; span = record { start = s i; end = e i } })
    ]
  ]
]

is-no-less : (m n : ℕ) → m ≡ n → nat_lt m n ≡ false
is-no-less m n e = grind (arith, nat_tests, e)

is-same : (m n : ℕ) → m ≡ n → nat_eq m n ≡ true
is-same m n e = grind (arith, nat_tests, e)

test-before : (a b : Diagnostic) → Before a b → is_before a b ≡ true
test-before a b (by_start l) = or_left (nat_lt a.span.start b.span.start) _ (lt-ltb a.span.start b.span.start l)
test-before a b (by_end s l) = or_right (nat_lt a.span.start b.span.start) _ (and_from (nat_eq a.span.start b.span.start) _ (is-same a.span.start b.span.start s) (or_left (nat_lt a.span.end b.span.end) _ (lt-ltb a.span.end b.span.end l)))
test-before a b (by_code s e l) = or_right (nat_lt a.span.start b.span.start) _ (and_from (nat_eq a.span.start b.span.start) _ (is-same a.span.start b.span.start s) (or_right (nat_lt a.span.end b.span.end) _ (and_from (nat_eq a.span.end b.span.end) _ (is-same a.span.end b.span.end e) (lt-ltb a.code b.code l))))

further : (a b c : Diagnostic) → Before a b → Before b c → Before a c
further a b c (by_start l) (by_start k) = by_start (omega (arith, l, k))
further a b c (by_start l) (by_end s k) = by_start (omega (arith, l, s))
further a b c (by_start l) (by_code s e k) = by_start (omega (arith, l, s))
further a b c (by_end s l) (by_start k) = by_start (omega (arith, s, k))
further a b c (by_end s l) (by_end t k) = by_end (s ∙ t) (omega (arith, l, k))
further a b c (by_end s l) (by_code t e k) = by_end (s ∙ t) (omega (arith, l, e))
further a b c (by_code s e l) (by_start k) = by_start (omega (arith, s, k))
further a b c (by_code s e l) (by_end t k) = by_end (s ∙ t) (omega (arith, e, k))
further a b c (by_code s e l) (by_code t f k) = by_code (s ∙ t) (e ∙ f) (omega (arith, l, k))

never-both : (a b : Diagnostic) → Before a b → Before b a → ⊥
never-both a b (by_start l) (by_start k) = absurd (omega (arith, l, k))
never-both a b (by_start l) (by_end s k) = absurd (omega (arith, l, s))
never-both a b (by_start l) (by_code s e k) = absurd (omega (arith, l, s))
never-both a b (by_end s l) (by_start k) = absurd (omega (arith, s, k))
never-both a b (by_end s l) (by_end t k) = absurd (omega (arith, l, k))
never-both a b (by_end s l) (by_code t e k) = absurd (omega (arith, l, e))
never-both a b (by_code s e l) (by_start k) = absurd (omega (arith, s, k))
never-both a b (by_code s e l) (by_end t k) = absurd (omega (arith, e, k))
never-both a b (by_code s e l) (by_code t f k) = absurd (omega (arith, l, k))

no-test : (m n : ℕ) → (m < n → ⊥) → nat_lt m n ≡ false
no-test m n never-less = ⊎_elim (λ (l : m < n). absurd (never-less l)) (λ h. grind (arith, nat_tests, h)) (cases_lt m n)

-- a test that holds tells of what comes before
tested-before : (a b : Diagnostic) → is_before a b ≡ true → Before a b
tested-before a b t = elim (compared a b) as (λ _. Before a b) [
  | before l ↦ l
  | behind g ↦ absurd (never a b g t)
  | same s ↦ absurd (unlike a b s t)
]
  where
    none : (n m k : Bool) → n ≡ false → m ≡ false → (n || (m && k)) ≡ true → ⊥
    none n m k p q e = let f : false ≡ true = sym (ap (λ z. z || (m && k)) p ∙ ap (λ z. z && k) q) ∙ e in cc

    not-same : (m n : ℕ) → n < m → nat_eq m n ≡ false
    not-same m n l = grind (arith, nat_tests, l)

    -- behind a test of numbers that are one comes the next test
    past : (n m k : Bool) → n ≡ false → (n || (m && k)) ≡ true → k ≡ true
    past n true k p e = sym (ap (λ z. z || k) p) ∙ e
    past n false k p e = let f : false ≡ true = sym (ap (λ z. z || false) p) ∙ e in cc

    never : (a b : Diagnostic) → Before b a → is_before a b ≡ true → ⊥
    never a b (by_start l) t = none (nat_lt a.span.start b.span.start) (nat_eq a.span.start b.span.start) _ (no-test a.span.start b.span.start (λ k. absurd (omega (arith, k, l)))) (not-same a.span.start b.span.start l) t
    never a b (by_end s l) t = none (nat_lt a.span.end b.span.end) (nat_eq a.span.end b.span.end) _ (no-test a.span.end b.span.end (λ k. absurd (omega (arith, k, l)))) (not-same a.span.end b.span.end l) (past (nat_lt a.span.start b.span.start) (nat_eq a.span.start b.span.start) _ (is-no-less a.span.start b.span.start (sym s)) t)
    never a b (by_code s e l) t =
        let after-start = past (nat_lt a.span.start b.span.start) (nat_eq a.span.start b.span.start) _ (is-no-less a.span.start b.span.start (sym s)) t in
        let after-end : nat_lt a.code b.code ≡ true = past (nat_lt a.span.end b.span.end) (nat_eq a.span.end b.span.end) _ (is-no-less a.span.end b.span.end (sym e)) after-start in
        let f : false ≡ true = sym (no-test a.code b.code (λ k. absurd (omega (arith, k, l)))) ∙ after-end in
        cc

    unlike : (a b : Diagnostic) → a ≡ b → is_before a b ≡ true → ⊥
    unlike a b s t =
        let start : a.span.start ≡ b.span.start = ap (λ (d : Diagnostic). d.span.start) s in
        let end : a.span.end ≡ b.span.end = ap (λ (d : Diagnostic). d.span.end) s in
        let code : a.code ≡ b.code = ap (λ (d : Diagnostic). d.code) s in
        let after-start = past (nat_lt a.span.start b.span.start) (nat_eq a.span.start b.span.start) _ (is-no-less a.span.start b.span.start start) t in
        let after-end : nat_lt a.code b.code ≡ true = past (nat_lt a.span.end b.span.end) (nat_eq a.span.end b.span.end) _ (is-no-less a.span.end b.span.end end) after-start in
        let f : false ≡ true = sym (is-no-less a.code b.code code) ∙ after-end in
        cc

-- ---- lists in order

later : (y : Diagnostic) (xs : List Diagnostic) (x : Diagnostic) → Contains xs x → Contains (y ∷ xs) x
later y xs x h = (suc h.0, omega (arith, h.1), h.2)

first-or-later : (y : Diagnostic) (xs : List Diagnostic) (x : Diagnostic) → Contains (y ∷ xs) x → (y ≡ x) ⊎ Contains xs x
first-or-later y xs x (zero, l, e) = inl e
first-or-later y xs x (suc i, l, e) = inr (i, omega (arith, l), e)

-- each comes before all behind it
abbrev Rises : List Diagnostic → Type 0
Rises [] = Unit {0}
Rises (x ∷ xs) = ((y : Diagnostic) → Contains xs y → Before x y) × Rises xs

-- one more was put among others
record IsWith (d : Diagnostic) (xs new : List Diagnostic) : Type 0 where
  up : Rises new
  there : Contains new d
  kept : (y : Diagnostic) → Contains xs y → Contains new y
  from : (y : Diagnostic) → Contains new y → (d ≡ y) ⊎ Contains xs y

by-tests : (d x : Diagnostic) (xs : List Diagnostic) → Rises (x ∷ xs) → IsWith d xs (with_one d xs) → (first second : Bool) → is_before d x ≡ first → is_before x d ≡ second → IsWith d (x ∷ xs) (cond first (d ∷ x ∷ xs) (cond second (x ∷ with_one d xs) (x ∷ xs)))
by-tests d x xs up rest true second p q =
    let before-head = tested-before d x p in
    record {
      up = (
        λ y at. elim (first-or-later x xs y at) as (λ _. Before d y) [
          | inl e ↦ subst (λ z. Before d z) e before-head
          | inr h ↦ further d x y before-head (up.0 y h)
        ],
        up,
      );
      there = first-there d (x ∷ xs);
      kept = λ y at. later d (x ∷ xs) y at;
      from = λ y at. first-or-later d (x ∷ xs) y at;
    }
by-tests d x xs up rest false true p q =
    let before-new = tested-before x d q in
    record {
      up = (
        λ y at. elim (rest.from y at) as (λ _. Before x y) [
          | inl e ↦ subst (λ z. Before x z) e before-new
          | inr h ↦ up.0 y h
        ],
        rest.up,
      );
      there = later x (with_one d xs) d rest.there;
      kept = λ y at. elim (first-or-later x xs y at) as (λ _. Contains (x ∷ with_one d xs) y) [
        | inl e ↦ subst (λ z. Contains (x ∷ with_one d xs) z) e (first-there x (with_one d xs))
        | inr h ↦ later x (with_one d xs) y (rest.kept y h)
      ];
      from = λ y at. elim (first-or-later x (with_one d xs) y at) as (λ _. (d ≡ y) ⊎ Contains (x ∷ xs) y) [
        | inl e ↦ inr (subst (λ z. Contains (x ∷ xs) z) e (first-there x xs))
        | inr h ↦ elim (rest.from y h) as (λ _. (d ≡ y) ⊎ Contains (x ∷ xs) y) [ inl e ↦ inl e | inr k ↦ inr (later x xs y k) ]
      ];
    }
by-tests d x xs up rest false false p q =
    let equal : d ≡ x = elim (compared d x) as (λ _. d ≡ x) [
      | before l ↦ let f : false ≡ true = sym p ∙ test-before d x l in cc
      | behind g ↦ let f : false ≡ true = sym q ∙ test-before x d g in cc
      | same s ↦ s
    ] in
    record {
      up = up;
      there = subst (λ z. Contains (x ∷ xs) z) (sym equal) (first-there x xs);
      kept = λ y at. at;
      from = λ y at. inr at;
    }

with-one : (d : Diagnostic) (xs : List Diagnostic) → Rises xs → IsWith d xs (with_one d xs)
with-one d [] up = record {
  up = (λ y at. absurd (omega (arith, at.1)), tt);
  there = first-there d [];
  kept = λ y at. absurd (omega (arith, at.1));
  from = λ y at. first-or-later d [] y at;
}
with-one d (x ∷ xs) up = by-tests d x xs up (with-one d xs up.1) (is_before d x) (is_before x d) refl refl

rises : (all : List Diagnostic) → Rises (in_order all)
rises [] = tt
rises (d ∷ ds) = (with-one d (in_order ds) (rises ds)).up

holds : (all : List Diagnostic) (y : Diagnostic) → Contains all y → Contains (in_order all) y
holds [] y at = at
holds (d ∷ ds) y at = elim (first-or-later d ds y at) as (λ _. Contains (with_one d (in_order ds)) y) [
  | inl e ↦ subst (λ z. Contains (with_one d (in_order ds)) z) e (with-one d (in_order ds) (rises ds)).there
  | inr h ↦ (with-one d (in_order ds) (rises ds)).kept y (holds ds y h)
]

held : (all : List Diagnostic) (y : Diagnostic) → Contains (in_order all) y → Contains all y
held [] y at = at
held (d ∷ ds) y at = elim ((with-one d (in_order ds) (rises ds)).from y at) as (λ _. Contains (d ∷ ds) y) [
  | inl e ↦ subst (λ z. Contains (d ∷ ds) z) e (first-there d ds)
  | inr h ↦ later d ds y (held ds y h)
]

contains : (xs : List Diagnostic) (i : ℕ) (x : Diagnostic) → slice_get xs i ≡ Some x → Contains xs x
contains xs i x e = (i, slice_get_within xs i x e, get_or_from_slice_get xs i x x e)

ordered : (xs : List Diagnostic) → Rises xs → (i j : ℕ) (a b : Diagnostic) → slice_get xs i ≡ Some a → slice_get xs j ≡ Some b → i < j → Before a b
ordered [] up i j a b p q l = absurd (omega (arith, slice_get_within [] i a p))
ordered (x ∷ xs) up zero zero a b p q l = absurd (omega (arith, l))
ordered (x ∷ xs) up zero (suc j) a b p q l = let s : x ≡ a = cc in subst (λ z. Before z b) s (up.0 b (contains xs j b q))
ordered (x ∷ xs) up (suc i) zero a b p q l = absurd (omega (arith, l))
ordered (x ∷ xs) up (suc i) (suc j) a b p q l = ordered xs up.1 i j a b p q (omega (arith, l))

-- these diagnostics in order are those in order
pub in-order : (all : List Diagnostic) → AreInOrder all (in_order all)
in-order all = record {
  same = λ fault. (held all fault, holds all fault);
  ordered = λ i j a b p q l. test-before a b (ordered (in_order all) (rises all) i j a b p q l);
}
