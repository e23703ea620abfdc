-- The value of a name, from the texts alone.
use Rattle.std.specs.Prelude.{ℕ, Bool, true, false, ◌&&◌, not, ◌≡◌, IsSome, if◌then◌else◌, List, [], Option, Some, None, map, count_by, unwrap_or}
use Rattle.std.specs.FinMap.{get, keys}
use Rattle.order_rec.specs.Ranked.{ranked}
use Rattle.fact_values.specs.Names.{has, name_eq, Texts}
use Rattle.fact_values.specs.Reach.{leads, rank}
use Rattle.fact_values.specs.States.{State, no_text, cyclic, broken, fact, same_given}

module _ {Own F : Type 0} (own_of : List ℕ → List ℕ → Own) (needs_of : Own → Option (List (List ℕ))) (fact_of : List ℕ → Own → List (List ℕ × State F) → F) where
  -- the needs of a text under a name; without a text there are none
  abbrev pub needs_of_text : List ℕ → Option (List ℕ) → List (List ℕ)
  needs_of_text name None = []
  needs_of_text name (Some bytes) = unwrap_or (needs_of (own_of name bytes)) []

  -- the needs of a name
  abbrev pub needs_in : Texts → List ℕ → List (List ℕ)
  needs_in texts name = needs_of_text name (get texts name)

  -- whether needs lead from one name to another
  abbrev pub reaches : Texts → List ℕ → List ℕ → Bool
  reaches texts = leads (needs_in texts) (keys texts)

  -- what a need gives to a name, where the other names have these values
  abbrev pub gives : Texts → (List ℕ → State F) → List ℕ → List ℕ → State F
  gives texts values name need = if reaches texts need name then cyclic else values need

  -- each need with what it gives
  abbrev pub all_given : Texts → (List ℕ → State F) → List ℕ → List (List ℕ) → List (List ℕ × State F)
  all_given texts values name needs = map (λ need. (need, gives texts values name need)) needs

  -- a text whose needs can't be told is broken, and of another one there is a fact
  abbrev pub value_of_needs : Texts → (List ℕ → State F) → List ℕ → Own → Option (List (List ℕ)) → State F
  value_of_needs texts values name own None = broken
  value_of_needs texts values name own (Some needs) = fact (fact_of name own (all_given texts values name needs))

  -- what a name is worth by its text, if it has one
  abbrev pub value_of_text : Texts → (List ℕ → State F) → List ℕ → Option (List ℕ) → State F
  value_of_text texts values name None = no_text
  value_of_text texts values name (Some bytes) = value_of_needs texts values name (own_of name bytes) (needs_of (own_of name bytes))

  -- the value of a name; a need that does not lead back reaches fewer names
  abbrev pub value : Texts → List ℕ → State F
  value texts = ranked no_text (rank (needs_in texts) (keys texts)) (λ name values. value_of_text texts values name (get texts name))

  -- what the needs of a name give to it
  abbrev pub given_in : Texts → List ℕ → List (List ℕ × State F)
  given_in texts name = all_given texts (value texts) name (needs_in texts name)

  -- what a fact is made from: an own part of a text, and what its needs give to it, up to faces
  pub record ComesFromTexts (same : F → F → Bool) (name : List ℕ) (own : Own) (given : List (List ℕ × State F)) : Type 0 where
    pub texts : Texts
    pub bytes : List ℕ
    pub text : get texts name ≡ Some bytes
    pub own_part : own ≡ own_of name bytes
    pub whole : IsSome (needs_of own)
    pub alike : same_given same given (given_in texts name) ≡ true

  -- both times there is the same text, or none
  abbrev pub same_text : Option (List ℕ) → Option (List ℕ) → Bool
  same_text None None = true
  same_text (Some a) (Some b) = name_eq a b
  same_text _ _ = false

  -- whether the text of a name, or what one of its needs gives to it, differs
  abbrev pub is_dirty : (F → F → Bool) → Texts → Texts → List ℕ → Bool
  is_dirty same old new name = not (same_text (get old name) (get new name) && same_given same (given_in old name) (given_in new name))

  -- how many names that have a text then are dirty
  abbrev pub dirty : (F → F → Bool) → Texts → Texts → ℕ
  dirty same old new = count_by (is_dirty same old new) (keys new)

  -- two lists of texts agree on these names, among which is all that they need
  pub record Agree (texts others : Texts) (among : List ℕ → Bool) : Type 0 where
    pub same : (name : List ℕ) → among name ≡ true → get texts name ≡ get others name
    pub closed : (name need : List ℕ) → among name ≡ true → has (needs_in texts name) need ≡ true → among need ≡ true
