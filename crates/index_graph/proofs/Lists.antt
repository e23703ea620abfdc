-- What stands where in lists.
use Rattle.std.proofs.Common.{◌≡◌, ◌≢◌, ℕ, zero, suc, ◌+◌, ◌<◌, List, [], ◌∷◌, ◌++◌, Option, Some, refl, sym, ap, ◌∙◌, inl, inr, take, drop, length, arith}
use Rattle.std.specs.Prelude.{◌⊎◌, slice_get, slice_set}
use Rattle.index_graph.specs.Indices.{Has}

module _ {A : Type 0} where
  pub at-within : (xs : List A) (i : ℕ) (x : A) → slice_get xs i ≡ Some x → i < length xs
  at-within [] zero x e = cc
  at-within [] (suc i) x e = cc
  at-within (y ∷ xs) zero x e = omega arith
  at-within (y ∷ xs) (suc i) x e = omega (arith, at-within xs i x e)

  pub at-there : (xs : List A) (i : ℕ) → i < length xs → (x : A) × (slice_get xs i ≡ Some x)
  at-there [] i l = absurd (omega arith)
  at-there (x ∷ xs) zero l = (x, refl)
  at-there (x ∷ xs) (suc i) l = at-there xs i (omega arith)

  pub at-same : (xs : List A) (i : ℕ) (x y : A) → slice_get xs i ≡ Some x → slice_get xs i ≡ Some y → x ≡ y
  at-same xs i x y e f = let h : ◌≡◌ {A = Option A} (Some x) (Some y) = sym e ∙ f in cc

  pub at-left : (xs ys : List A) (i : ℕ) (x : A) → slice_get xs i ≡ Some x → slice_get (xs ++ ys) i ≡ Some x
  at-left [] ys zero x e = cc
  at-left [] ys (suc i) x e = cc
  at-left (z ∷ xs) ys zero x e = e
  at-left (z ∷ xs) ys (suc i) x e = at-left xs ys i x e

  pub at-right : (xs ys : List A) (i : ℕ) (x : A) → slice_get ys i ≡ Some x → slice_get (xs ++ ys) (length xs + i) ≡ Some x
  at-right [] ys i x e = let h : length {A = A} [] + i ≡ i = omega arith in ap (slice_get ys) h ∙ e
  at-right (z ∷ xs) ys i x e = let h : length (z ∷ xs) + i ≡ suc (length xs + i) = omega arith in ap (slice_get (z ∷ (xs ++ ys))) h ∙ at-right xs ys i x e

  -- in the first list, or in the second
  pub at-either : (xs ys : List A) (i : ℕ) (x : A) → slice_get (xs ++ ys) i ≡ Some x → (slice_get xs i ≡ Some x) ⊎ ((k : ℕ) × (i ≡ length xs + k) × (slice_get ys k ≡ Some x))
  at-either [] ys i x e = inr (i, omega arith, e)
  at-either (z ∷ xs) ys zero x e = inl e
  at-either (z ∷ xs) ys (suc i) x e = elim (at-either xs ys i x e) as (λ _. (slice_get (z ∷ xs) (suc i) ≡ Some x) ⊎ ((k : ℕ) × (suc i ≡ length (z ∷ xs) + k) × (slice_get ys k ≡ Some x))) [
    | inl before ↦ inl before
    | inr behind ↦ let h : i ≡ length xs + behind.0 = behind.1 in inr (behind.0, omega arith, behind.2)
  ]

  pub at-one : (y : A) (i : ℕ) (x : A) → slice_get (y ∷ []) i ≡ Some x → (i ≡ 0) × (y ≡ x)
  at-one y zero x e = (refl, cc)
  at-one y (suc zero) x e = cc
  at-one y (suc (suc i)) x e = cc

  pub at-last : (xs : List A) (x : A) → slice_get (xs ++ x ∷ []) (length xs) ≡ Some x
  at-last [] x = refl
  at-last (y ∷ xs) x = at-last xs x

  pub at-pushed : (xs : List A) (y : A) (i : ℕ) (x : A) → slice_get (xs ++ y ∷ []) i ≡ Some x → (slice_get xs i ≡ Some x) ⊎ ((i ≡ length xs) × (y ≡ x))
  at-pushed [] y zero x e = inr (refl, cc)
  at-pushed [] y (suc zero) x e = cc
  at-pushed [] y (suc (suc i)) x e = cc
  at-pushed (z ∷ xs) y zero x e = inl e
  at-pushed (z ∷ xs) y (suc i) x e = elim (at-pushed xs y i x e) as (λ _. (slice_get xs i ≡ Some x) ⊎ ((suc i ≡ length (z ∷ xs)) × (y ≡ x))) [ inl before ↦ inl before | inr end ↦ inr (ap suc end.0, end.1) ]

  pub at-taken : (n : ℕ) (xs : List A) (i : ℕ) (x : A) → slice_get (take n xs) i ≡ Some x → (slice_get xs i ≡ Some x) × (i < n)
  at-taken zero xs zero x e = cc
  at-taken zero xs (suc i) x e = cc
  at-taken (suc n) [] zero x e = cc
  at-taken (suc n) [] (suc i) x e = cc
  at-taken (suc n) (y ∷ xs) zero x e = (e, omega arith)
  at-taken (suc n) (y ∷ xs) (suc i) x e = let r = at-taken n xs i x e in let l : i < n = r.1 in (r.0, omega arith)

  pub at-take : (n : ℕ) (xs : List A) (i : ℕ) (x : A) → i < n → slice_get xs i ≡ Some x → slice_get (take n xs) i ≡ Some x
  at-take zero xs i x l e = absurd (omega arith)
  at-take (suc n) [] i x l e = e
  at-take (suc n) (y ∷ xs) zero x l e = e
  at-take (suc n) (y ∷ xs) (suc i) x l e = at-take n xs i x (omega arith) e

  pub at-dropped : (n : ℕ) (xs : List A) (i : ℕ) (x : A) → slice_get (drop n xs) i ≡ Some x → slice_get xs (n + i) ≡ Some x
  at-dropped zero xs i x e = let h : zero + i ≡ i = omega arith in ap (slice_get xs) h ∙ e
  at-dropped (suc n) [] zero x e = cc
  at-dropped (suc n) [] (suc i) x e = cc
  at-dropped (suc n) (y ∷ xs) i x e = let h : suc n + i ≡ suc (n + i) = omega arith in ap (slice_get (y ∷ xs)) h ∙ at-dropped n xs i x e

  pub at-drop : (n : ℕ) (xs : List A) (i k : ℕ) (x : A) → i ≡ n + k → slice_get xs i ≡ Some x → slice_get (drop n xs) k ≡ Some x
  at-drop zero xs i k x h e = let g : i ≡ k = omega arith in ap (slice_get xs) (sym g) ∙ e
  at-drop (suc n) [] zero k x h e = cc
  at-drop (suc n) [] (suc i) k x h e = cc
  at-drop (suc n) (y ∷ xs) zero k x h e = absurd (omega arith)
  at-drop (suc n) (y ∷ xs) (suc i) k x h e = at-drop n xs i k x (omega arith) e

  pub at-set-same : (xs : List A) (i : ℕ) (x : A) → i < length xs → slice_get (slice_set xs i x) i ≡ Some x
  at-set-same [] i x l = absurd (omega arith)
  at-set-same (y ∷ xs) zero x l = refl
  at-set-same (y ∷ xs) (suc i) x l = at-set-same xs i x (omega arith)

  pub at-set-other : (xs : List A) (i j : ℕ) (x : A) → j ≢ i → slice_get (slice_set xs i x) j ≡ slice_get xs j
  at-set-other [] i j x n = refl
  at-set-other (y ∷ xs) zero zero x n = absurd (n refl)
  at-set-other (y ∷ xs) zero (suc j) x n = refl
  at-set-other (y ∷ xs) (suc i) zero x n = refl
  at-set-other (y ∷ xs) (suc i) (suc j) x n = at-set-other xs i j x (λ e. n (ap suc e))

  -- one that is in a list that grew was there, or is among the new ones
  pub has-left : (xs ys : List A) (x : A) → Has xs x → Has (xs ++ ys) x
  has-left xs ys x h = (h.0, at-left xs ys h.0 x h.1)

  pub has-right : (xs ys : List A) (x : A) → Has ys x → Has (xs ++ ys) x
  has-right xs ys x h = (length xs + h.0, at-right xs ys h.0 x h.1)

  pub has-either : (xs ys : List A) (x : A) → Has (xs ++ ys) x → Has xs x ⊎ Has ys x
  has-either xs ys x h = elim (at-either xs ys h.0 x h.1) as (λ _. Has xs x ⊎ Has ys x) [ inl before ↦ inl (h.0, before) | inr behind ↦ inr (behind.0, behind.2) ]
