-- What holds of two lists item by item holds of their fronts, of what is left behind these, and of the lists joined.
use Rattle.std.proofs.Common.{ℕ, zero, suc, List, [], ◌∷◌, ◌++◌, take, drop}
use Rattle.std.specs.List.{AllZip}

module _ {A : Type 0} (R : A → A → Type 0) where
  pub zip-take : (n : ℕ) (s u : List A) → AllZip R s u → AllZip R (take n s) (take n u)
  zip-take zero s u all = tt
  zip-take (suc n) [] [] all = tt
  zip-take (suc n) [] (y ∷ ys) all = absurd all
  zip-take (suc n) (x ∷ xs) [] all = absurd all
  zip-take (suc n) (x ∷ xs) (y ∷ ys) all = (all.0, zip-take n xs ys all.1)

  pub zip-drop : (n : ℕ) (s u : List A) → AllZip R s u → AllZip R (drop n s) (drop n u)
  zip-drop zero s u all = all
  zip-drop (suc n) [] [] all = tt
  zip-drop (suc n) [] (y ∷ ys) all = absurd all
  zip-drop (suc n) (x ∷ xs) [] all = absurd all
  zip-drop (suc n) (x ∷ xs) (y ∷ ys) all = zip-drop n xs ys all.1

  pub zip-append : (s u p q : List A) → AllZip R s u → AllZip R p q → AllZip R (s ++ p) (u ++ q)
  zip-append [] [] p q all more = more
  zip-append [] (y ∷ ys) p q all more = absurd all
  zip-append (x ∷ xs) [] p q all more = absurd all
  zip-append (x ∷ xs) (y ∷ ys) p q all more = (all.0, zip-append xs ys p q all.1 more)
