-- Whether needs lead somewhere is whether a path of needs does.
use Rattle.std.proofs.Common.{◌≡◌, ℕ, ◌≤◌, ◌<◌, Bool, true, false, List, [], ◌∷◌, ◌++◌, refl, sym, ap, ◌∙◌, subst, cond, inl, inr, arith}
use Rattle.std.specs.Prelude.{◌||◌, ◌&&◌, count_by}
use Rattle.std.proofs.lemmas.List.Sums.{sum_by-cons}
use Rattle.std.proofs.lemmas.Bool.{and_from, or_left, or_right}
use Rattle.list_laws.proofs.Tests.{and-left, and-right}
use Rattle.fact_values.specs.Names.{name_eq, has}
use Rattle.fact_values.specs.Reach.{IsPath, Reaches, leads, rank}
use Rattle.fact_values.proofs.NameLemmas.{true_or_false, same_name, name_eq-refl, or_cases}

-- what a test adds to a count
abbrev one : Bool → ℕ
one b = cond b 1 0

one-le : (a b : Bool) → (a ≡ true → b ≡ true) → one a ≤ one b
one-le true b h = omega (arith, ap one (h refl))
one-le false b h = omega arith

-- who passes fewer tests counts no more
pub count-le : {X : Type 0} (p q : X → Bool) (xs : List X) → ((x : X) → p x ≡ true → q x ≡ true) → count_by p xs ≤ count_by q xs
count-le p q [] h = omega arith
count-le p q (x ∷ xs) h = omega (arith, sum_by-cons (λ y. cond (p y) 1 0) x xs, sum_by-cons (λ y. cond (q y) 1 0) x xs, count-le p q xs h, one-le (p x) (q x) (h x))

-- and where one of the names passes the second alone, fewer
pub count-lt : (p q : List ℕ → Bool) (xs : List (List ℕ)) → ((x : List ℕ) → p x ≡ true → q x ≡ true) → (y : List ℕ) → has xs y ≡ true → p y ≡ false → q y ≡ true → count_by p xs < count_by q xs
count-lt p q [] h y m fails holds = cc
count-lt p q (x ∷ xs) h y m fails holds = elim (or_cases (name_eq y x) (has xs y) m) as (λ _. count_by p (x ∷ xs) < count_by q (x ∷ xs)) [
  | inl same ↦
      let e = same_name y x same in let px : one (p x) ≡ 0 = ap (λ z. one (p z)) (sym e) ∙ ap one fails in let qx : one (q x) ≡ 1 = ap (λ z. one (q z)) (sym e) ∙ ap one holds in
      omega (arith, sum_by-cons (λ z. cond (p z) 1 0) x xs, sum_by-cons (λ z. cond (q z) 1 0) x xs, count-le p q xs h, px, qx)
  | inr later ↦
      let ih = count-lt p q xs h y later fails holds in
      omega (arith, sum_by-cons (λ z. cond (p z) 1 0) x xs, sum_by-cons (λ z. cond (q z) 1 0) x xs, ih, one-le (p x) (q x) (h x))
]

module _ (needs : List ℕ → List (List ℕ)) where
  pub leads-refl : (vs : List (List ℕ)) (a : List ℕ) → leads needs vs a a ≡ true
  unfolding leads
  leads-refl [] a = or_left (name_eq a a) _ (name_eq-refl a)
  leads-refl (v ∷ vs) a = or_left (leads needs vs a a) _ (leads-refl vs a)

  pub leads-need : (vs : List (List ℕ)) (a b : List ℕ) → has (needs a) b ≡ true → leads needs vs a b ≡ true
  unfolding leads
  leads-need [] a b h = or_right (name_eq a b) _ h
  leads-need (v ∷ vs) a b h = or_left (leads needs vs a b) _ (leads-need vs a b h)

  -- first a need that is one of the names, and then on
  pub leads-through : (vs : List (List ℕ)) (a c b : List ℕ) → has vs c ≡ true → has (needs a) c ≡ true → leads needs vs c b ≡ true → leads needs vs a b ≡ true
  unfolding leads
  leads-through [] a c b m h l = cc
  leads-through (v ∷ vs) a c b m h l = elim (or_cases (name_eq c v) (has vs c) m) as (λ _. leads needs (v ∷ vs) a b ≡ true) [
    | inl same ↦ over (same_name c v same)
    | inr later ↦ elim (or_cases (leads needs vs c b) _ l) as (λ _. leads needs (v ∷ vs) a b ≡ true) [
      | inl direct ↦ or_left (leads needs vs a b) _ (leads-through vs a c b later h direct)
      | inr round ↦ or_right (leads needs vs a b) _ (and_from (leads needs vs a v) (leads needs vs v b) (leads-through vs a c v later h (and-left (leads needs vs c v) (leads needs vs v b) round)) (and-right (leads needs vs c v) (leads needs vs v b) round))
    ]
  ]
    where
      over : c ≡ v → (leads needs vs a b || (leads needs vs a v && leads needs vs v b)) ≡ true
      over e = elim (or_cases (leads needs vs c b) _ l) as (λ _. (leads needs vs a b || (leads needs vs a v && leads needs vs v b)) ≡ true) [
        | inl direct ↦ or_right (leads needs vs a b) _ (and_from (leads needs vs a v) (leads needs vs v b) (leads-need vs a v (ap (has (needs a)) (sym e) ∙ h)) (ap (λ x. leads needs vs x b) (sym e) ∙ direct))
        | inr round ↦ or_right (leads needs vs a b) _ (and_from (leads needs vs a v) (leads needs vs v b) (leads-need vs a v (ap (has (needs a)) (sym e) ∙ h)) (and-right (leads needs vs c v) (leads needs vs v b) round))
      ]

  -- a name without needs leads to itself alone
  pub leads-stuck : (vs : List (List ℕ)) (a b : List ℕ) → needs a ≡ [] → leads needs vs a b ≡ true → a ≡ b
  unfolding leads
  leads-stuck [] a b none l = elim (or_cases (name_eq a b) (has (needs a) b) l) as (λ _. a ≡ b) [
    | inl same ↦ same_name a b same
    | inr need ↦ let h : false ≡ true = ap (λ (ns : List (List ℕ)). has ns b) (sym none) ∙ need in cc h
  ]
  leads-stuck (v ∷ vs) a b none l = elim (or_cases (leads needs vs a b) _ l) as (λ _. a ≡ b) [
    | inl direct ↦ leads-stuck vs a b none direct
    | inr round ↦ let e = leads-stuck vs a v none (and-left (leads needs vs a v) (leads needs vs v b) round) in leads-stuck vs a b none (ap (λ x. leads needs vs x b) e ∙ and-right (leads needs vs a v) (leads needs vs v b) round)
  ]

  pub path-append : (a : List ℕ) (xs : List (List ℕ)) (b : List ℕ) (ys : List (List ℕ)) (c : List ℕ) → IsPath needs a xs b → IsPath needs b ys c → IsPath needs a (xs ++ ys) c
  path-append a [] b ys c p q = subst (λ x. IsPath needs x ys c) (sym p) q
  path-append a (x ∷ xs) b ys c p q = (p.0, path-append x xs b ys c p.1 q)

  pub reaches-trans : (a b c : List ℕ) → Reaches needs a b → Reaches needs b c → Reaches needs a c
  reaches-trans a b c p q = (p.0 ++ q.0, path-append a p.0 b q.0 c p.1 q.1)

  -- what leads somewhere is a path
  pub reaches_from-leads : (vs : List (List ℕ)) (a b : List ℕ) → leads needs vs a b ≡ true → Reaches needs a b
  unfolding leads
  reaches_from-leads [] a b l = elim (or_cases (name_eq a b) (has (needs a) b) l) as (λ _. Reaches needs a b) [
    | inl same ↦ ([], same_name a b same)
    | inr need ↦ (b ∷ [], (need, refl))
  ]
  reaches_from-leads (v ∷ vs) a b l = elim (or_cases (leads needs vs a b) _ l) as (λ _. Reaches needs a b) [
    | inl direct ↦ reaches_from-leads vs a b direct
    | inr round ↦ reaches-trans a v b (reaches_from-leads vs a v (and-left (leads needs vs a v) (leads needs vs v b) round)) (reaches_from-leads vs v b (and-right (leads needs vs a v) (leads needs vs v b) round))
  ]

  module _ (names : List (List ℕ)) (closed : (a : List ℕ) → has names a ≡ false → needs a ≡ []) where
    -- a need first, and then on
    pub leads-step : (a c b : List ℕ) → has (needs a) c ≡ true → leads needs names c b ≡ true → leads needs names a b ≡ true
    leads-step a c b h l = elim (true_or_false (has names c)) as (λ _. leads needs names a b ≡ true) [
      | inl within ↦ leads-through names a c b within h l
      | inr past ↦ leads-need names a b (ap (has (needs a)) (sym (leads-stuck names c b (closed c past) l)) ∙ h)
    ]

    -- a path is found
    pub leads_from-path : (xs : List (List ℕ)) (a b : List ℕ) → IsPath needs a xs b → leads needs names a b ≡ true
    leads_from-path [] a b p = ap (leads needs names a) (sym p) ∙ leads-refl names a
    leads_from-path (x ∷ xs) a b p = leads-step a x b p.0 (leads_from-path xs x b p.1)

    pub leads-trans : (a b c : List ℕ) → leads needs names a b ≡ true → leads needs names b c ≡ true → leads needs names a c ≡ true
    leads-trans a b c p q =
        let r = reaches-trans a b c (reaches_from-leads names a b p) (reaches_from-leads names b c q) in leads_from-path r.0 a c r.1

    -- who is reached and does not lead back reaches fewer
    pub rank-lt : (a b : List ℕ) → has names a ≡ true → leads needs names a b ≡ true → leads needs names b a ≡ false → rank needs names b < rank needs names a
    rank-lt a b within there back =
        count-lt (leads needs names b) (leads needs names a) names (λ x l. leads-trans a b x there l) a within back (leads-refl names a)

-- a set that has the start and each need of what it has has all that is reached
pub closed_under-reach : (needs : List ℕ → List (List ℕ)) (P : List ℕ → Type 0) → ((a b : List ℕ) → P a → has (needs a) b ≡ true → P b) → (xs : List (List ℕ)) (a b : List ℕ) → IsPath needs a xs b → P a → P b
closed_under-reach needs P step [] a b p h = subst P p h
closed_under-reach needs P step (x ∷ xs) a b p h = closed_under-reach needs P step xs x b p.1 (step a x h p.0)
