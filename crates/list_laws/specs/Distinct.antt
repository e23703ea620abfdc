-- Items that have names of their own.
use Rattle.std.specs.Prelude.{◌≡◌, ℕ, List, Some, slice_get}

-- no two of them have one name
abbrev pub AreNamedApart : {A : Type 0} → (A → List ℕ) → List A → Type 0
AreNamedApart name_of items = (i j : ℕ) (a b : _) → slice_get items i ≡ Some a → slice_get items j ≡ Some b → name_of a ≡ name_of b → i ≡ j
