-- Lists in stretches that are shared, one after another.
use Rattle.std.specs.Prelude.{◌≡◌, ◌++◌, ◌∷◌, ℕ, Bool, List, [], Option, Some, None, map, flat_map, slice_get, string_bytes, String}
use Rattle.std.specs.Arc.{arc_value}
use Rattle.std.specs.Borrow.{Bor}
use Rattle.std.specs.declared.alloc.Global.{Global}
use Rattle.std.specs.declared.sync.Arc.{Arc}
use Rattle.tla_model.specs.Entities.{Entity, Meaning}
use Rattle.tla_model.specs.EntityKinds.{words_meant}

-- a word with what it means, as it is shown to who looks at it
abbrev pub shown : Bor (List ℕ) × Bor Meaning → List ℕ × Meaning
shown entry = (entry.0.now, entry.1.now)

-- words with what they mean
abbrev pub words_of : List (String Global × Meaning) → List (List ℕ × Meaning)
words_of entries = map (λ entry. (string_bytes entry.0, entry.1)) entries

-- those of a stretch
abbrev pub words_in : {Z : Type 0} → Arc (List (List ℕ × Meaning)) Z → List (List ℕ × Meaning)
words_in stretch = arc_value stretch

-- those of all stretches
abbrev pub all_words : {Z : Type 0} → List (Arc (List (List ℕ × Meaning)) Z) → List (List ℕ × Meaning)
all_words stretches = flat_map words_in stretches

-- what stands at a place, if something does
abbrev pub one_of : {A : Type 0} → Option A → List A
one_of None = []
one_of (Some item) = item ∷ []

-- the words that stand at these places
abbrev pub words_at : List (List ℕ × Meaning) → List ℕ → List (List ℕ × Meaning)
words_at words [] = []
words_at words (place ∷ places) = one_of (slice_get words place) ++ words_at words places

-- at these places stand the words that mean an entity of this kind
abbrev pub AreAt : (Entity → Bool) → List (List ℕ × Meaning) → List ℕ → Type 0
AreAt which words places = words_at words places ≡ words_meant which words
