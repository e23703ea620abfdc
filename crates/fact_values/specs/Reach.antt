-- What leads where, by needs.
use Rattle.std.specs.Prelude.{◌≡◌, ℕ, Bool, ◌||◌, ◌&&◌, List, [], ◌∷◌, IsTrue, count_by}
use Rattle.fact_values.specs.Names.{name_eq, has}

module _ (needs : List ℕ → List (List ℕ)) where
  -- each of these names is needed by the one before it, from a to b
  abbrev pub IsPath : List ℕ → List (List ℕ) → List ℕ → Type 0
  IsPath a [] b = a ≡ b
  IsPath a (x ∷ xs) b = IsTrue (has (needs a) x) × IsPath x xs b

  -- no, one or more needs lead from a to b
  abbrev pub Reaches : List ℕ → List ℕ → Type 0
  Reaches a b = (xs : List (List ℕ)) × IsPath a xs b

  -- whether needs lead from a to b through these names alone: past the first of them, or over it
  unfoldable pub leads : List (List ℕ) → List ℕ → List ℕ → Bool
  leads [] a b = name_eq a b || has (needs a) b
  leads (v ∷ vs) a b = leads vs a b || (leads vs a v && leads vs v b)

  -- how many of these names a reaches through them
  abbrev pub rank : List (List ℕ) → List ℕ → ℕ
  rank names a = count_by (leads names a) names
