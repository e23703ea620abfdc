-- What a name gives to those that need it, and its value.
use Rattle.std.specs.Prelude.{ℕ, Bool, true, false, ◌&&◌, List, [], ◌∷◌}
use Rattle.fact_values.specs.Names.{name_eq}

-- there is no text, the need leads back to the one that needs, the text is broken, or a fact
pub data State (F : Type 0) : Type 0 where
  no_text : State F
  cyclic : State F
  broken : State F
  fact : F → State F

module _ {F : Type 0} (same : F → F → Bool) where
  -- alike but for what the faces of facts leave out
  abbrev pub same_state : State F → State F → Bool
  same_state no_text no_text = true
  same_state cyclic cyclic = true
  same_state broken broken = true
  same_state (fact a) (fact b) = same a b
  same_state _ _ = false

  -- the same names in order, each with states alike
  abbrev pub same_given : List (List ℕ × State F) → List (List ℕ × State F) → Bool
  same_given [] [] = true
  same_given [] (y ∷ ys) = false
  same_given (x ∷ xs) [] = false
  same_given (x ∷ xs) (y ∷ ys) = (name_eq x.0 y.0 && same_state x.1 y.1) && same_given xs ys
