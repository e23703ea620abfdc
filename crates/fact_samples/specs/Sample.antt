-- Small texts: a face, a part that no other text sees, and names of two bytes that are needed.
use Rattle.std.specs.Prelude.{ℕ, ◌+◌, ◌*◌, ◌%◌, Bool, ◌==◌, if◌then◌else◌, fold, List, [], ◌∷◌, Option, Some, None, slice_index, drop}
use Rattle.fact_samples.specs.declared.SampleFact.{SampleFact}
use Rattle.fact_values.specs.States.{State, no_text, cyclic, broken, fact}

-- the own part of a text is the text
abbrev pub own_of : List ℕ → List ℕ → List ℕ
own_of name bytes = bytes

-- names of two bytes each, one behind the other
abbrev pub names : List ℕ → List (List ℕ)
names [] = []
names (a ∷ []) = []
names (a ∷ b ∷ rest) = (a ∷ b ∷ []) ∷ names rest

-- what follows the face and the part that is not seen; a text that begins with `!` is broken
abbrev pub needs_of : List ℕ → Option (List (List ℕ))
needs_of own = if slice_index own 0 == 33 then None else Some (names (drop 2 own))

-- what is seen of what a need gives
abbrev pub seen : State SampleFact → ℕ
seen no_text = 0
seen cyclic = 1
seen broken = 2
seen (fact f) = 3 + f.face

-- a digest of what the needs give
abbrev pub below : List (List ℕ × State SampleFact) → ℕ
below given = fold (λ n g. (n * 31 + seen g.1) % 65536) 0 given

-- the fact of a text: its face, its part that is not seen, and the digest of what its needs give
abbrev pub fact_of : List ℕ → List ℕ → List (List ℕ × State SampleFact) → SampleFact
fact_of name own given = record { face = slice_index own 0; hidden = slice_index own 1; below = below given }

-- facts are alike by their faces alone
abbrev pub same : SampleFact → SampleFact → Bool
same a b = a.face == b.face
