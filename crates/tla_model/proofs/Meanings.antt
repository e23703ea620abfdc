-- Words by what they mean.
use Rattle.std.proofs.Common.{◌≡◌, ℕ, ◌+◌, ◌<◌, Bool, true, false, List, ◌∷◌, ◌++◌, [], Option, Some, None, refl, sym, ap, ◌∙◌, cond, if◌then◌else◌, length, drop, get_or}
use Rattle.std.specs.Prelude.{◌&&◌, slice_get, flat_map}
use Rattle.indexmap.specs.IndexMap.{IndexMap, UpdatesBy, get}
use Rattle.list_laws.proofs.Lists.{drop-at, drop-from}
use Rattle.tla_model.specs.Entities.{Meaning, same_meaning}
use Rattle.tla_model.specs.EntityKinds.{is_meant, stands_behind}
use Rattle.tla_model.specs.Equal.{meaning-equivalence}
use Rattle.tla_model.specs.Meant.{AreMeant, NotesMeaning, is_behind, placed_word, word_meaning}

-- ---- places

-- what cannot be named behind an instance is not noted
pub not-noted : {S : Type 0} (places : IndexMap Meaning ℕ S) (meaning : Meaning) (place : ℕ) → is_meant stands_behind meaning ≡ false → NotesMeaning places places meaning place
not-noted places meaning place not other = ap (λ b. if b && same_meaning other meaning then Some place else get same_meaning places other) (sym not)

-- what can be is
pub noted : {S : Type 0} (old new : IndexMap Meaning ℕ S) (key meaning : Meaning) (place : ℕ) → is_meant stands_behind meaning ≡ true → key ≡ meaning
    → UpdatesBy same_meaning (same_meaning key) old new (Some place) → NotesMeaning old new meaning place
noted old new key meaning place behind is updates other =
    updates.0 other
    ∙ ap (λ (b : Bool). cond b (Some place) (get same_meaning old other)) (ap (λ k. same_meaning k other) is ∙ meaning-equivalence.symm meaning other)
    ∙ ap (λ b. if b && same_meaning other meaning then Some place else get same_meaning old other) (sym behind)

-- one more word, before those behind it
pub meant-before : {S : Type 0} (words : List (List ℕ × Meaning)) (old new : IndexMap Meaning ℕ S) (i : ℕ) (entry : List ℕ × Meaning) → slice_get words i ≡ Some entry
    → NotesMeaning old new entry.1 i → AreMeant words (drop (i + 1) words) old → AreMeant words (drop i words) new
meant-before words old new i entry is notes known other =
    ap (placed_word words) (notes other)
    ∙ by (is_behind other entry.1)
    ∙ sym (ap (λ z. word_meaning z other) (drop-at words i entry is))
  where
    by : (b : Bool) → placed_word words (if b then Some i else get same_meaning old other) ≡ (if b then Some entry else word_meaning (drop (i + 1) words) other)
    by true = is
    by false = known other

-- ---- stretches

-- the first word that means something stays the first, whatever follows
found-first : (words more : List (List ℕ × Meaning)) (other : Meaning) (entry : List ℕ × Meaning) → word_meaning words other ≡ Some entry → word_meaning (words ++ more) other ≡ Some entry
found-first [] more other entry found = cc
found-first (word ∷ words) more other entry found = by (is_behind other word.1) found (found-first words more other entry)
  where
    by : (b : Bool) → (if b then Some word else word_meaning words other) ≡ Some entry → (word_meaning words other ≡ Some entry → word_meaning (words ++ more) other ≡ Some entry)
        → (if b then Some word else word_meaning (words ++ more) other) ≡ Some entry
    by true found rest = found
    by false found rest = rest found

-- where none does, those that follow are looked at
found-next : (words more : List (List ℕ × Meaning)) (other : Meaning) → word_meaning words other ≡ None → word_meaning (words ++ more) other ≡ word_meaning more other
found-next [] more other none = refl
found-next (word ∷ words) more other none = by (is_behind other word.1) none (found-next words more other)
  where
    by : (b : Bool) → (if b then Some word else word_meaning words other) ≡ None → (word_meaning words other ≡ None → word_meaning (words ++ more) other ≡ word_meaning more other)
        → (if b then Some word else word_meaning (words ++ more) other) ≡ word_meaning more other
    by true none rest = cc
    by false none rest = rest none

pub meaning-found : {X : Type 0} (f : X → List (List ℕ × Meaning)) (xs : List X) (i : ℕ) (x : X) (other : Meaning) (entry : List ℕ × Meaning) → i < length xs → x ≡ get_or xs i x
    → word_meaning (f x) other ≡ Some entry → word_meaning (flat_map f (drop i xs)) other ≡ Some entry
meaning-found f xs i x other entry lt is found =
    ap (λ z. word_meaning (flat_map f z) other) (drop-from xs i x lt is) ∙ found-first (f x) (flat_map f (drop (i + 1) xs)) other entry found

pub meaning-missed : {X : Type 0} (f : X → List (List ℕ × Meaning)) (xs : List X) (i : ℕ) (x : X) (other : Meaning) → i < length xs → x ≡ get_or xs i x
    → word_meaning (f x) other ≡ None → word_meaning (flat_map f (drop (i + 1) xs)) other ≡ word_meaning (flat_map f (drop i xs)) other
meaning-missed f xs i x other lt is none =
    sym (ap (λ z. word_meaning (flat_map f z) other) (drop-from xs i x lt is) ∙ found-next (f x) (flat_map f (drop (i + 1) xs)) other none)
