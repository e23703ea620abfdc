-- How many of the first words are the same.
use Rattle.std.proofs.Common.{◌≡◌, ℕ, ◌+◌, List, [], ◌∷◌, ◌++◌, Option, Some, take, ap, sym, ◌∙◌}
use Rattle.std.specs.Prelude.{slice_get}
use Rattle.list_laws.proofs.Lists.{at-map}
use Rattle.tla_model.specs.Entities.{Meaning}
use Rattle.tla_model.proofs.Stretching.{take-at}
use Rattle.name_context.specs.AsTables.{usable, usable_words}
use Rattle.name_context.proofs.Looking.{something-take}

-- one more word that is the same
pub one-more : {A : Type 0} (xs ys : List A) (i : ℕ) (x : A) → slice_get xs i ≡ Some x → slice_get ys i ≡ Some x → take i xs ≡ take i ys → take (i + 1) xs ≡ take (i + 1) ys
one-more xs ys i x left right so = take-at xs i x left ∙ ap (λ z. z ++ x ∷ []) so ∙ sym (take-at ys i x right)

pub one-more-usable : (seen : List (List ℕ × Option Meaning)) (words : List (List ℕ × Meaning)) (i : ℕ) (word : List ℕ × Meaning) →
    slice_get seen i ≡ Some (usable word) → slice_get words i ≡ Some word → take i seen ≡ usable_words (take i words) → take (i + 1) seen ≡ usable_words (take (i + 1) words)
one-more-usable seen words i word left right so =
    one-more seen (usable_words words) i (usable word) left (at-map usable words i word right) (so ∙ sym (something-take i words)) ∙ something-take (i + 1) words
