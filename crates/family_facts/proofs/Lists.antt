-- What stands in lists.
use Rattle.std.proofs.Common.{◌≡◌, ◌<◌, ℕ, zero, suc, ◌+◌, List, [], ◌∷◌, ◌++◌, Option, Some, refl, sym, ap, ◌∙◌, cond, map, filter, take, length, get_or, arith, subst, true, false, Bool, ⊎_elim, inl, inr}
use Rattle.std.specs.Prelude.{◌⊎◌, Contains, slice_get}
use Rattle.std.specs.List.{list_any, AllZip}
use Rattle.std.specs.Str.{bytes_eq}
use Rattle.std.proofs.lemmas.Bool.{cases_Bool}
use Rattle.std.proofs.lemmas.List.{take_more}
use Rattle.std.proofs.lemmas.List.Elements.{Contains-append_cases}
use Rattle.std.proofs.lemmas.Option.{slice_get-get_or, get_or_from_slice_get, slice_get_within}
use Rattle.list_laws.proofs.Texts.{any-contains, contains-any}

module _ {A : Type 0} where
  pub at-contains : (xs : List A) (i : ℕ) (x : A) → slice_get xs i ≡ Some x → Contains xs x
  at-contains xs i x e = (i, slice_get_within xs i x e, get_or_from_slice_get xs i x x e)

  pub contains-at : (xs : List A) (x : A) → Contains xs x → (i : ℕ) × (slice_get xs i ≡ Some x)
  contains-at xs x h = (h.0, slice_get-get_or xs h.0 x h.1 ∙ ap Some h.2)

  pub at-same : (xs : List A) (i : ℕ) (x y : A) → slice_get xs i ≡ Some x → slice_get xs i ≡ Some y → x ≡ y
  at-same xs i x y e f = let h : ◌≡◌ {A = Option A} (Some x) (Some y) = sym e ∙ f in cc

  pub contains-one : (x y : A) → Contains (x ∷ []) y → x ≡ y
  contains-one x y (zero, l, e) = e
  contains-one x y (suc i, l, e) = absurd (omega (arith, l))

  pub here : (x : A) (xs : List A) → Contains (x ∷ xs) x
  here x xs = (0, omega arith, refl)

  pub behind : (y : A) (xs : List A) (x : A) → Contains xs x → Contains (y ∷ xs) x
  behind y xs x h = (suc h.0, omega (arith, h.1), h.2)

  pub none-there : (x : A) → Contains [] x → ⊥
  none-there x h = absurd (omega (arith, h.1))

  pub first-or-rest : (y : A) (xs : List A) (x : A) → Contains (y ∷ xs) x → (y ≡ x) ⊎ Contains xs x
  first-or-rest y xs x (zero, l, e) = inl e
  first-or-rest y xs x (suc i, l, e) = inr (i, omega (arith, l), e)

  -- what stands in a list with one more stood there, or is that one
  pub contains-pushed : (xs : List A) (y x : A) → Contains (xs ++ y ∷ []) x → Contains xs x ⊎ (y ≡ x)
  contains-pushed xs y x h = elim (Contains-append_cases xs (y ∷ []) x h) as (λ _. Contains xs x ⊎ (y ≡ x)) [ inl before ↦ inl before | inr last ↦ inr (contains-one y x last) ]

  pub in-filter : (p : A → Bool) (xs : List A) (x : A) → Contains (filter p xs) x → Contains xs x × (p x ≡ true)
  in-filter p [] x h = absurd (omega (arith, h.1))
  in-filter p (y ∷ xs) x h = by (p y) refl (in-filter p xs x) h
    where
      by : (b : Bool) → p y ≡ b → (Contains (filter p xs) x → Contains xs x × (p x ≡ true)) → Contains (cond b (y ∷ filter p xs) (filter p xs)) x → Contains (y ∷ xs) x × (p x ≡ true)
      by true t rest k = elim (first-or-rest y (filter p xs) x k) as (λ _. Contains (y ∷ xs) x × (p x ≡ true)) [
        | inl same ↦ ((0, omega arith, same), ap p (sym same) ∙ t)
        | inr more ↦ let r = rest more in (behind y xs x r.0, r.1)
      ]
      by false t rest k = let r = rest k in (behind y xs x r.0, r.1)

  -- what passes stays
  pub filter-in : (p : A → Bool) (xs : List A) (x : A) → Contains xs x → p x ≡ true → Contains (filter p xs) x
  filter-in p [] x h t = absurd (none-there x h)
  filter-in p (y ∷ xs) x h t = elim (first-or-rest y xs x h) as (λ _. Contains (filter p (y ∷ xs)) x) [
    | inl same ↦ subst (λ b. Contains (cond b (y ∷ filter p xs) (filter p xs)) x) (sym (ap p same ∙ t)) (subst (Contains (y ∷ filter p xs)) same (here y (filter p xs)))
    | inr more ↦ kept (p y) (filter-in p xs x more t)
  ]
    where
      kept : (b : Bool) → Contains (filter p xs) x → Contains (cond b (y ∷ filter p xs) (filter p xs)) x
      kept true k = behind y (filter p xs) x k
      kept false k = k

pub mapped : {A B : Type 0} (f : A → B) (xs : List A) (y : B) → Contains (map f xs) y → (x : A) × Contains xs x × (f x ≡ y)
mapped f [] y h = absurd (omega (arith, h.1))
mapped f (x ∷ xs) y (zero, l, e) = (x, (0, omega arith, refl), e)
mapped f (x ∷ xs) y (suc i, l, e) = let r = mapped f xs y (i, omega (arith, l), e) in (r.0, behind x xs r.0 (r.1), r.2)

pub among-or-not : (names : List (List ℕ)) (name : List ℕ) → Contains names name ⊎ (Contains names name → ⊥)
among-or-not names name = ⊎_elim
    (λ (t : list_any (bytes_eq name) names ≡ true). inl (any-contains names name t))
    (λ (f : list_any (bytes_eq name) names ≡ false). inr (λ h. let k : true ≡ false = sym (contains-any names name h) ∙ f in cc))
    (cases_Bool (list_any (bytes_eq name) names))

-- ---- two lists side by side

module _ {A B : Type 0} (R : A → B → Type 0) where
  pub zip-push : (xs : List A) (ys : List B) (x : A) (y : B) → AllZip R xs ys → R x y → AllZip R (xs ++ x ∷ []) (ys ++ y ∷ [])
  zip-push [] [] x y h r = (r, tt)
  zip-push [] (b ∷ ys) x y h r = absurd h
  zip-push (a ∷ xs) [] x y h r = absurd h
  zip-push (a ∷ xs) (b ∷ ys) x y h r = (h.0, zip-push xs ys x y h.1 r)

  pub zip-left : (xs : List A) (ys : List B) (x : A) → AllZip R xs ys → Contains xs x → (y : B) × Contains ys y × R x y
  zip-left [] ys x h c = absurd (omega (arith, c.1))
  zip-left (a ∷ xs) [] x h c = absurd h
  zip-left (a ∷ xs) (b ∷ ys) x h (zero, l, e) = (b, (0, omega arith, refl), rw (sym e) h.0)
  zip-left (a ∷ xs) (b ∷ ys) x h (suc i, l, e) = let r = zip-left xs ys x h.1 (i, omega (arith, l), e) in (r.0, behind b ys r.0 (r.1), r.2)

  pub zip-right : (xs : List A) (ys : List B) (y : B) → AllZip R xs ys → Contains ys y → (x : A) × Contains xs x × R x y
  zip-right xs [] y h c = absurd (omega (arith, c.1))
  zip-right [] (b ∷ ys) y h c = absurd h
  zip-right (a ∷ xs) (b ∷ ys) y h (zero, l, e) = (a, (0, omega arith, refl), rw (sym e) h.0)
  zip-right (a ∷ xs) (b ∷ ys) y h (suc i, l, e) = let r = zip-right xs ys y h.1 (i, omega (arith, l), e) in (r.0, behind a xs r.0 (r.1), r.2)

  -- one more at the place of the next item
  pub zip-more : (xs : List A) (ys : List B) (i : ℕ) (d : A) (y : B) → i < length xs → AllZip R (take i xs) ys → R (get_or xs i d) y → AllZip R (take (i + 1) xs) (ys ++ y ∷ [])
  zip-more xs ys i d y l h r = rw (take_more xs i d l) (zip-push (take i xs) ys (get_or xs i d) y h r)
