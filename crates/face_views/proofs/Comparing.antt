-- Lists that are the same item by item.
use Rattle.std.proofs.Common.{◌≡◌, ℕ, ◌+◌, ◌≤◌, List, ◌∷◌, Some, drop, length, sym, ◌∙◌}
use Rattle.std.specs.Prelude.{slice_get}
use Rattle.std.proofs.lemmas.List.{drop_all}
use Rattle.list_laws.proofs.Lists.{drop-at}

-- lists are the same if they are from a place on
abbrev pub AreSameBefore : {A : Type 0} → ℕ → List A → List A → Type 0
AreSameBefore i xs ys = drop i xs ≡ drop i ys → xs ≡ ys

pub same-next : {A : Type 0} (i : ℕ) (xs ys : List A) (x y : A) → slice_get xs i ≡ Some x → slice_get ys i ≡ Some y → x ≡ y → AreSameBefore i xs ys → AreSameBefore (i + 1) xs ys
same-next i xs ys x y here there same before rest = before (drop-at xs i x here ∙ (λ k. same k ∷ rest k) ∙ sym (drop-at ys i y there))

pub same-all : {A : Type 0} (i : ℕ) (xs ys : List A) → length xs ≤ i → length ys ≤ i → AreSameBefore i xs ys → xs ≡ ys
same-all i xs ys all both before = before (drop_all i xs all ∙ sym (drop_all i ys both))
