-- What holds where a call answered.
use Rattle.std.proofs.Common.{◌≡◌, ℕ, ◌<◌, List, [], ◌∷◌, ◌++◌, get_or, length, reverse, refl, ap, sym, subst, ◌∙◌}
use Rattle.std.specs.Prelude.{Result, Ok, Err, IfOk, OnOk}
use Rattle.std.specs.List.{AllByRecursion}
use Rattle.std.proofs.lemmas.List.{reverse-reverse}
use Rattle.std.proofs.lemmas.Option.{get_or_from_slice_get}
use Rattle.list_laws.proofs.Lists.{all-right, item-at, reverse-last}
use Rattle.tla_model.specs.Entities.{Meaning}
use Rattle.tree_flattener.specs.Worlds.{frame_at}

-- where one thing holds, so does what follows from it
pub on-ok : {T E P Q : Type 0} (r : Result T E) → OnOk r P → (P → Q) → OnOk r Q
on-ok (Ok x) holds follows = follows holds
on-ok (Err e) holds follows = tt

-- and where two do
pub on-both : {T E P Q R : Type 0} (r : Result T E) → OnOk r P → OnOk r Q → (P → Q → R) → OnOk r R
on-both (Ok x) one two follows = follows one two
on-both (Err e) one two follows = tt

-- where four things hold of an answer, so does what follows from them
pub if-four : {T E : Type 0} {P Q R S Z : T → Type 0} (r : Result T E) → IfOk r P → IfOk r Q → IfOk r R → IfOk r S → ((x : T) → P x → Q x → R x → S x → Z x) → IfOk r Z
if-four (Ok x) p q r s follows = follows x p q r s
if-four (Err e) p q r s follows = tt

-- an element with an index is the frame with that number
pub frame-is : (frames : List (List Meaning)) (frame : ℕ) (found : List Meaning) → frame < length frames → found ≡ get_or frames frame found → found ≡ frame_at frames frame
frame-is frames frame found there is =
    let item = item-at frames frame there in
    is ∙ get_or_from_slice_get frames frame item.0 found item.1 ∙ sym (get_or_from_slice_get frames frame item.0 [] item.1)

-- ---- the last of a list

-- a list has one last element
pub last-of : {A : Type 0} (xs ys : List A) (x y : A) → xs ++ x ∷ [] ≡ ys ++ y ∷ [] → (xs ≡ ys) × (x ≡ y)
last-of xs ys x y same =
    let turned : x ∷ reverse xs ≡ y ∷ reverse ys = sym (reverse-last x (xs ++ x ∷ []) xs refl) ∙ reverse-last y (xs ++ x ∷ []) ys same in
    let rest : reverse xs ≡ reverse ys = cc in
    (sym (reverse-reverse xs) ∙ ap reverse rest ∙ reverse-reverse ys, cc)

-- what holds of all holds of the last
pub last-holds : {A : Type 0} (P : A → Type 0) (all rest : List A) (x : A) → all ≡ rest ++ x ∷ [] → AllByRecursion P all → P x
last-holds P all rest x is holds = (all-right P rest (x ∷ []) (subst (AllByRecursion P) is holds)).0
