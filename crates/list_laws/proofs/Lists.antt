-- What holds of the items of lists.
use Rattle.std.proofs.Common.{◌≡◌, ℕ, zero, suc, ◌+◌, ◌<◌, ◌⊎◌, List, [], ◌∷◌, ◌++◌, Some, Bool, true, false, if◌then◌else◌, refl, sym, ap, ◌∙◌, inl, inr, length, drop, drop-cons, get_or, reverse, add-one, arith}
use Rattle.std.specs.Prelude.{Contains, map, option_map, slice_get}
use Rattle.std.specs.List.{AllByRecursion}
use Rattle.std.proofs.lemmas.List.{reverse-append}
use Rattle.std.proofs.lemmas.Option.{slice_get-map, slice_get-get_or, slice_get_within, get_or_from_slice_get}

-- what holds of all items of two lists in a row holds of those of each
pub all-left : {A : Type 0} (P : A → Type 0) (a b : List A) → AllByRecursion P (a ++ b) → AllByRecursion P a
all-left P [] b all = tt
all-left P (x ∷ a) b all = (all.0, all-left P a b all.1)

pub all-right : {A : Type 0} (P : A → Type 0) (a b : List A) → AllByRecursion P (a ++ b) → AllByRecursion P b
all-right P [] b all = all
all-right P (x ∷ a) b all = all-right P a b all.1

pub all-both : {A : Type 0} (P : A → Type 0) (a b : List A) → AllByRecursion P a → AllByRecursion P b → AllByRecursion P (a ++ b)
all-both P [] b all more = more
all-both P (x ∷ a) b all more = (all.0, all-both P a b all.1 more)

-- the same of three lists in a row
pub all-three : {A : Type 0} (P : A → Type 0) (a b c : List A) → AllByRecursion P a → AllByRecursion P b → AllByRecursion P c → AllByRecursion P (a ++ b ++ c)
all-three P a b c all more last = all-both P (a ++ b) c (all-both P a b all more) last

-- and of one of two lists
pub all-either : {A : Type 0} (P : A → Type 0) (b : Bool) (xs ys : List A) → AllByRecursion P xs → AllByRecursion P ys → AllByRecursion P (if b then xs else ys)
all-either P true xs ys all more = all
all-either P false xs ys all more = more

-- what holds of all items holds of them where it is less
pub all-weaker : {A : Type 0} (P Q : A → Type 0) → ((x : A) → P x → Q x) → (xs : List A) → AllByRecursion P xs → AllByRecursion Q xs
all-weaker P Q weaker [] all = tt
all-weaker P Q weaker (x ∷ xs) all = (weaker x all.0, all-weaker P Q weaker xs all.1)

-- each place of a list has an item
pub item-at : {A : Type 0} (xs : List A) (i : ℕ) → i < length xs → (x : A) × (slice_get xs i ≡ Some x)
item-at [] i l = absurd (omega arith)
item-at (x ∷ xs) zero l = (x, refl)
item-at (x ∷ xs) (suc i) l = item-at xs i (omega arith)

-- the item at a place is mapped to the one there
pub at-map : {A B : Type 0} (f : A → B) (xs : List A) (i : ℕ) (x : A) → slice_get xs i ≡ Some x → slice_get (map f xs) i ≡ Some (f x)
at-map f xs i x e = slice_get-map f xs i ∙ ap (option_map f) e

-- and each item of the mapped list comes from one
pub at-mapped : {A B : Type 0} (f : A → B) (xs : List A) (i : ℕ) (y : B) → slice_get (map f xs) i ≡ Some y → (x : A) × (slice_get xs i ≡ Some x) × (f x ≡ y)
at-mapped f [] zero y e = cc
at-mapped f [] (suc i) y e = cc
at-mapped f (x ∷ xs) zero y e = (x, refl, cc)
at-mapped f (x ∷ xs) (suc i) y e = at-mapped f xs i y e

pub contains-map : {A B : Type 0} (f : A → B) (xs : List A) (x : A) → Contains xs x → Contains (map f xs) (f x)
contains-map f xs x there =
    let stands : slice_get (map f xs) there.0 ≡ Some (f x) = at-map f xs there.0 x (slice_get-get_or xs there.0 x there.1 ∙ ap Some there.2) in
    (there.0, slice_get_within (map f xs) there.0 (f x) stands, get_or_from_slice_get (map f xs) there.0 (f x) (f x) stands)

-- an item of a list with one more behind it is one of the list, or the one behind
pub pushed-cases : {A : Type 0} (xs : List A) (x y : A) (i : ℕ) → slice_get (xs ++ x ∷ []) i ≡ Some y → (slice_get xs i ≡ Some y) ⊎ ((i ≡ length xs) × (x ≡ y))
pushed-cases [] x y zero e = inr (refl, cc)
pushed-cases [] x y (suc i) e = cc
pushed-cases (z ∷ xs) x y zero e = inl e
pushed-cases (z ∷ xs) x y (suc i) e = elim (pushed-cases xs x y i e) as (λ _. (slice_get xs i ≡ Some y) ⊎ ((suc i ≡ length (z ∷ xs)) × (x ≡ y))) [ inl before ↦ inl before | inr last ↦ inr (ap suc last.0, last.1) ]

pub drop-next : {A : Type 0} (xs : List A) (i : ℕ) (x : A) → slice_get xs i ≡ Some x → drop i xs ≡ x ∷ drop (suc i) xs
drop-next [] zero x e = cc
drop-next [] (suc i) x e = cc
drop-next (y ∷ xs) zero x e = cc
drop-next (y ∷ xs) (suc i) x e = drop-next xs i x e

-- what stands from a place on is the item there, and what stands from the next place on
pub drop-at : {A : Type 0} (xs : List A) (i : ℕ) (x : A) → slice_get xs i ≡ Some x → drop i xs ≡ x ∷ drop (i + 1) xs
drop-at xs i x e = rw add-one (drop-next xs i x e)

pub drop-from : {A : Type 0} (xs : List A) (i : ℕ) (x : A) → i < length xs → x ≡ get_or xs i x → drop i xs ≡ x ∷ drop (i + 1) xs
drop-from xs i x lt is = drop-at xs i x (slice_get-get_or xs i x lt ∙ ap Some (sym is))

-- what is left of a list, from a place within it on
pub rest-at : {A : Type 0} (xs : List A) (i : ℕ) (d : A) → i < length xs → drop i xs ≡ get_or xs i d ∷ drop (i + 1) xs
rest-at xs i d within = rw (add-one, drop-cons xs i d) refl

pub first-there : {A : Type 0} (x : A) (xs : List A) → Contains (x ∷ xs) x
first-there x xs = (zero, omega arith, refl)

pub at-end : {A : Type 0} (xs : List A) (x : A) → slice_get (xs ++ x ∷ []) (length xs) ≡ Some x
at-end [] x = refl
at-end (y ∷ xs) x = at-end xs x

-- the last of a list is the first from its end
pub reverse-last : {A : Type 0} (x : A) (all rest : List A) → all ≡ rest ++ x ∷ [] → reverse all ≡ x ∷ reverse rest
reverse-last x all rest is = ap reverse is ∙ reverse-append rest (x ∷ [])
