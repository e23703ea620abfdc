-- What holds of the items of lists that are mapped or picked from others.
use Rattle.std.proofs.Common.{◌≡◌, Bool, true, false, cond, List, [], ◌∷◌, refl}
use Rattle.std.specs.Prelude.{filter, map}
use Rattle.std.specs.List.{AllByRecursion}

pub all-mapped : {A B : Type 0} (f : A → B) (P : B → Type 0) (xs : List A) → AllByRecursion (λ x. P (f x)) xs → AllByRecursion P (map f xs)
all-mapped f P [] all = tt
all-mapped f P (x ∷ xs) all = (all.0, all-mapped f P xs all.1)

-- what holds of all holds of those that pass a test
pub all-passing : {A : Type 0} (P : A → Type 0) (test : A → Bool) (xs : List A) → AllByRecursion P xs → AllByRecursion P (filter test xs)
all-passing P test [] all = tt
all-passing P test (x ∷ xs) all = by (test x) all.0 (all-passing P test xs all.1)
  where
    by : (b : Bool) → P x → AllByRecursion P (filter test xs) → AllByRecursion P (cond b (x ∷ filter test xs) (filter test xs))
    by true here rest = (here, rest)
    by false here rest = rest

-- and what holds of those that pass it holds of each that does
pub all-kept : {A : Type 0} (P : A → Type 0) (test : A → Bool) (xs : List A) → AllByRecursion P (filter test xs) → AllByRecursion (λ x. test x ≡ true → P x) xs
all-kept P test [] all = tt
all-kept P test (x ∷ xs) all = by (test x) refl (all-kept P test xs) all
  where
    by : (b : Bool) → test x ≡ b → (AllByRecursion P (filter test xs) → AllByRecursion (λ y. test y ≡ true → P y) xs) → AllByRecursion P (cond b (x ∷ filter test xs) (filter test xs)) → (test x ≡ true → P x) × AllByRecursion (λ y. test y ≡ true → P y) xs
    by true is rest all = ((λ passes. all.0), rest all.1)
    by false is rest all = ((λ passes. cc (passes, is)), rest all)
