-- Tables whose entries stand in groups, each of one first byte.
use Rattle.std.specs.Prelude.{ℕ, List, [], ◌∷◌, ◌==◌, Option, None, if◌then◌else◌}
use Rattle.tla_spelling.specs.Spellings.{meaning_of}

-- what a spelling that begins with a byte means in the first group of that byte
abbrev pub meaning_from : {G E M : Type 0} → (E → List ℕ) → (E → M) → (G → ℕ) → (G → List E) → List G → ℕ → List ℕ → Option M
meaning_from text meaning first entries [] byte spelling = None
meaning_from text meaning first entries (group ∷ groups) byte spelling = if first group == byte then meaning_of text meaning (entries group) spelling else meaning_from text meaning first entries groups byte spelling

-- what a spelling means in such a table
abbrev pub meaning_in : {G E M : Type 0} → (E → List ℕ) → (E → M) → (G → ℕ) → (G → List E) → List G → List ℕ → Option M
meaning_in text meaning first entries groups [] = None
meaning_in text meaning first entries groups (byte ∷ more) = meaning_from text meaning first entries groups byte (byte ∷ more)
