-- Sums over names that stand once.
use Rattle.std.proofs.Common.{◌≡◌, ℕ, zero, suc, ◌+◌, List, [], ◌∷◌, refl, sym, ap, ◌∙◌, cond, map, arith, true, false, ⊎_elim, inl, inr, subst}
use Rattle.std.specs.Prelude.{Contains, sum_by}
use Rattle.std.specs.Str.{bytes_eq}
use Rattle.std.proofs.lemmas.Bool.{cases_Bool}
use Rattle.std.proofs.lemmas.List.Sums.{sum_by-cons}
use Rattle.list_laws.proofs.Texts.{same-text, text-itself}
use Rattle.family_tables.specs.Plans.{AreOnce}
use Rattle.family_facts.proofs.Lists.{behind, contains-at, first-or-rest, here, none-there}

IsOnce : List (List ℕ) → Type 0
IsOnce [] = Unit {0}
IsOnce (x ∷ xs) = (Contains xs x → ⊥) × IsOnce xs

once-by : (xs : List (List ℕ)) → AreOnce xs → IsOnce xs
unfolding IsOnce
once-by [] once = tt
once-by (x ∷ xs) once = (
  λ h. let k = contains-at xs x h in let e : zero ≡ suc k.0 = once zero (suc k.0) x refl k.1 in absurd (omega (arith, e)),
  once-by xs (λ i j name hi hj. let e : suc i ≡ suc j = once (suc i) (suc j) name hi hj in omega (arith, e)),
)

-- without the first such name
without : List ℕ → List (List ℕ) → List (List ℕ)
without x [] = []
without x (y ∷ ys) = cond (bytes_eq x y) ys (y ∷ without x ys)

without-here : (x y : List ℕ) (ys : List (List ℕ)) → bytes_eq x y ≡ true → without x (y ∷ ys) ≡ ys
unfolding without
without-here x y ys t = ap (λ b. cond b ys (y ∷ without x ys)) t

without-later : (x y : List ℕ) (ys : List (List ℕ)) → bytes_eq x y ≡ false → without x (y ∷ ys) ≡ y ∷ without x ys
unfolding without
without-later x y ys f = ap (λ b. cond b ys (y ∷ without x ys)) f

without-none : (x : List ℕ) → without x [] ≡ []
unfolding without
without-none x = refl

was-there : (x : List ℕ) (ys : List (List ℕ)) (z : List ℕ) → Contains (without x ys) z → Contains ys z
was-there x [] z h = subst (λ l. Contains l z) (without-none x) h
was-there x (y ∷ ys) z h = ⊎_elim
    (λ (t : bytes_eq x y ≡ true). behind y ys z (subst (λ l. Contains l z) (without-here x y ys t) h))
    (λ (f : bytes_eq x y ≡ false). elim (first-or-rest y (without x ys) z (subst (λ l. Contains l z) (without-later x y ys f) h)) as (λ _. Contains (y ∷ ys) z) [
      | inl e ↦ subst (λ n. Contains (y ∷ ys) n) e (here y ys)
      | inr r ↦ behind y ys z (was-there x ys z r)
    ])
    (cases_Bool (bytes_eq x y))

still-there : (x : List ℕ) (ys : List (List ℕ)) (z : List ℕ) → Contains ys z → (z ≡ x → ⊥) → Contains (without x ys) z
still-there x [] z h n = absurd (none-there z h)
still-there x (y ∷ ys) z h n = ⊎_elim
    (λ (t : bytes_eq x y ≡ true). elim (first-or-rest y ys z h) as (λ _. Contains (without x (y ∷ ys)) z) [
      | inl e ↦ absurd (n (sym (same-text x y t ∙ e)))
      | inr r ↦ subst (λ l. Contains l z) (sym (without-here x y ys t)) r
    ])
    (λ (f : bytes_eq x y ≡ false). subst (λ l. Contains l z) (sym (without-later x y ys f)) (elim (first-or-rest y ys z h) as (λ _. Contains (y ∷ without x ys) z) [
      | inl e ↦ subst (λ m. Contains (y ∷ without x ys) m) e (here y (without x ys))
      | inr r ↦ behind y (without x ys) z (still-there x ys z r n)
    ]))
    (cases_Bool (bytes_eq x y))

once-without : (x : List ℕ) (ys : List (List ℕ)) → IsOnce ys → IsOnce (without x ys)
unfolding IsOnce
once-without x [] h = subst IsOnce (sym (without-none x)) tt
once-without x (y ∷ ys) h = ⊎_elim
    (λ (t : bytes_eq x y ≡ true). subst IsOnce (sym (without-here x y ys t)) h.1)
    (λ (f : bytes_eq x y ≡ false). subst IsOnce (sym (without-later x y ys f)) (λ c. h.0 (was-there x ys y c), once-without x ys h.1))
    (cases_Bool (bytes_eq x y))

gone : (x : List ℕ) (ys : List (List ℕ)) → IsOnce ys → Contains (without x ys) x → ⊥
unfolding IsOnce
gone x [] h c = none-there x (subst (λ l. Contains l x) (without-none x) c)
gone x (y ∷ ys) h c = ⊎_elim
    (λ (t : bytes_eq x y ≡ true). h.0 (subst (λ n. Contains ys n) (same-text x y t) (subst (λ l. Contains l x) (without-here x y ys t) c)))
    (λ (f : bytes_eq x y ≡ false). elim (first-or-rest y (without x ys) x (subst (λ l. Contains l x) (without-later x y ys f) c)) as (λ _. ⊥) [
      | inl e ↦ let k : true ≡ false = sym (text-itself x y (sym e)) ∙ f in cc
      | inr r ↦ gone x ys h.1 r
    ])
    (cases_Bool (bytes_eq x y))

sum-without : (f : List ℕ → ℕ) (x : List ℕ) (ys : List (List ℕ)) → Contains ys x → sum_by f ys ≡ f x + sum_by f (without x ys)
sum-without f x [] h = absurd (none-there x h)
sum-without f x (y ∷ ys) h = ⊎_elim
    (λ (t : bytes_eq x y ≡ true). sum_by-cons f y ys ∙ (ap (λ n. f n + sum_by f ys) (sym (same-text x y t)) ∙ ap (λ l. f x + sum_by f l) (sym (without-here x y ys t))))
    (λ (g : bytes_eq x y ≡ false). elim (first-or-rest y ys x h) as (λ _. sum_by f (y ∷ ys) ≡ f x + sum_by f (without x (y ∷ ys))) [
      | inl e ↦ let k : true ≡ false = sym (text-itself x y (sym e)) ∙ g in cc
      | inr r ↦
          let rest : sum_by f ys ≡ f x + sum_by f (without x ys) = sum-without f x ys r in
          let whole : sum_by f (without x (y ∷ ys)) ≡ f y + sum_by f (without x ys) = ap (sum_by f) (without-later x y ys g) ∙ sum_by-cons f y (without x ys) in
          let first : sum_by f (y ∷ ys) ≡ f y + sum_by f ys = sum_by-cons f y ys in
          omega (arith, rest, whole, first)
    ])
    (cases_Bool (bytes_eq x y))

sum-once : (f : List ℕ → ℕ) (xs ys : List (List ℕ)) → IsOnce xs → IsOnce ys → ((x : List ℕ) → Contains xs x → Contains ys x) → ((x : List ℕ) → Contains ys x → Contains xs x) → sum_by f xs ≡ sum_by f ys
unfolding IsOnce
sum-once f [] [] h k to from = refl
sum-once f [] (y ∷ ys) h k to from = absurd (none-there y (from y (here y ys)))
sum-once f (x ∷ xs) ys h k to from =
    let rest : sum_by f xs ≡ sum_by f (without x ys) = sum-once f xs (without x ys) h.1 (once-without x ys k)
    (λ z c. still-there x ys z (to z (behind x xs z c)) (λ e. h.0 (subst (λ n. Contains xs n) e c)))
    (λ z c. elim (first-or-rest x xs z (from z (was-there x ys z c))) as (λ _. Contains xs z) [
      | inl e ↦ absurd (gone x ys k (subst (λ n. Contains (without x ys) n) (sym e) c))
      | inr r ↦ r
    ]) in
    sum_by-cons f x xs ∙ (ap (λ n. f x + n) rest ∙ sym (sum-without f x ys (to x (here x xs))))

-- names that stand once have one sum in each order
pub sum-members : (f : List ℕ → ℕ) (xs ys : List (List ℕ)) → AreOnce xs → AreOnce ys → ((x : List ℕ) → Contains xs x → Contains ys x) → ((x : List ℕ) → Contains ys x → Contains xs x) → sum_by f xs ≡ sum_by f ys
sum-members f xs ys h k to from = sum-once f xs ys (once-by xs h) (once-by ys k) to from

pub sum-map : {A B : Type 0} (f : B → ℕ) (g : A → B) (h : A → ℕ) (xs : List A) → ((x : A) → Contains xs x → f (g x) ≡ h x) → sum_by f (map g xs) ≡ sum_by h xs
sum-map f g h [] same = refl
sum-map f g h (x ∷ xs) same =
    sum_by-cons f (g x) (map g xs) ∙ ((λ i. same x (here x xs) i + sum-map f g h xs (λ z c. same z (behind x xs z c)) i) ∙ sym (sum_by-cons h x xs))
