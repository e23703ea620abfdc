-- Lists that stand in another one in its order, with others between.
use Rattle.std.specs.Prelude.{List, [], ◌∷◌}

-- the first list is the second one without some of its items
pub data IsWithin {A : Type 0} : List A → List A → Type 0 where
  none : {ys : List A} → IsWithin [] ys
  other : {xs ys : List A} (y : A) → IsWithin xs ys → IsWithin xs (y ∷ ys)
  next : {xs ys : List A} (x : A) → IsWithin xs ys → IsWithin (x ∷ xs) (x ∷ ys)
