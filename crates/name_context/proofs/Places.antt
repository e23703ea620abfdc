-- What stands at a place of words.
use Rattle.std.proofs.Common.{◌≡◌, ℕ, zero, suc, ◌-◌, ◌<◌, ◌≤◌, List, [], ◌∷◌, ◌++◌, Option, Some, length, take, ◌∙◌, arith}
use Rattle.std.specs.Prelude.{slice_get}
use Rattle.std.proofs.lemmas.Option.{slice_get_past}
use Rattle.list_laws.proofs.Lists.{at-map}
use Rattle.tla_model.specs.Entities.{Meaning}
use Rattle.tla_model.proofs.Stretching.{at-first, at-next}
use Rattle.name_context.specs.AsTables.{usable, usable_words}

-- among the first so many
pub at-first-many : {A : Type 0} (n : ℕ) (xs : List A) (i : ℕ) (x : A) → i < length (take n xs) → slice_get xs i ≡ Some x → slice_get (take n xs) i ≡ Some x
at-first-many zero xs i x within at = absurd (omega (arith, within))
at-first-many (suc n) [] i x within at = cc
at-first-many (suc n) (y ∷ xs) zero x within at = at
at-first-many (suc n) (y ∷ xs) (suc i) x within at = at-first-many n xs i x (omega (arith, within)) at

pub at-others : {A : Type 0} (a b : List A) (i : ℕ) (x : A) → length a ≤ i → slice_get b (i - length a) ≡ Some x → slice_get (a ++ b) i ≡ Some x
at-others a b i x past at = at-next a b i (slice_get_past a i past) ∙ at

pub at-usable : (words : List (List ℕ × Meaning)) (others : List (List ℕ × Option Meaning)) (i : ℕ) (word : List ℕ × Meaning) → slice_get words i ≡ Some word → slice_get (usable_words words ++ others) i ≡ Some (usable word)
at-usable words others i word at = at-first (usable_words words) others i (usable word) (at-map usable words i word at)
