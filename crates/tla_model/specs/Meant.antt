-- Words by what they mean.
use Rattle.indexmap.specs.IndexMap.{IndexMap, get}
use Rattle.std.specs.Prelude.{◌≡◌, ℕ, Bool, ◌&&◌, List, [], ◌∷◌, Option, Some, None, if◌then◌else◌, slice_get}
use Rattle.tla_model.specs.Entities.{Meaning, same_meaning}
use Rattle.tla_model.specs.EntityKinds.{is_meant, stands_behind}

-- this can be named behind an instance, and the other means the same
abbrev pub is_behind : Meaning → Meaning → Bool
is_behind other meaning = is_meant stands_behind meaning && same_meaning other meaning

-- the first of some words that means this and can be named behind an instance
abbrev pub word_meaning : List (List ℕ × Meaning) → Meaning → Option (List ℕ × Meaning)
word_meaning [] other = None
word_meaning (entry ∷ rest) other = if is_behind other entry.1 then Some entry else word_meaning rest other

-- ---- places of words

-- the word at a place that may be there
abbrev pub placed_word : List (List ℕ × Meaning) → Option ℕ → Option (List ℕ × Meaning)
placed_word words None = None
placed_word words (Some place) = slice_get words place

-- at these places stand the words that mean something
abbrev pub AreMeant : {S : Type 0} → List (List ℕ × Meaning) → List (List ℕ × Meaning) → IndexMap Meaning ℕ S → Type 0
AreMeant words among places = (other : Meaning) → placed_word words (get same_meaning places other) ≡ word_meaning among other

-- a meaning is noted at a place, in place of that at which it was
abbrev pub NotesMeaning : {S : Type 0} → IndexMap Meaning ℕ S → IndexMap Meaning ℕ S → Meaning → ℕ → Type 0
NotesMeaning old new meaning place = (other : Meaning) → get same_meaning new other ≡ (if is_behind other meaning then Some place else get same_meaning old other)
