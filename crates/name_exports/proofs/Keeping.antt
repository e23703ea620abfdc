-- Words of a kind among others.
use Rattle.std.proofs.Common.{◌≡◌, ℕ, ◌+◌, take, List, [], ◌∷◌, ◌++◌, Some, Bool, cond, append_assoc, ap, sym, ◌∙◌}
use Rattle.std.specs.Prelude.{slice_get}
use Rattle.std.specs.Borrow.{Bor}
use Rattle.tla_model.specs.Entities.{Entity, Meaning}
use Rattle.tla_model.specs.EntityKinds.{is_meant, words_meant}
use Rattle.tla_model.proofs.Stretching.{take-at}
use Rattle.name_context.specs.AsTables.{words_of}
use Rattle.name_context.proofs.Words.{words-append}
use Rattle.std.proofs.lemmas.List.Elements.{filter-append}

-- one more word is looked at
pub kept-next : (which : Entity → Bool) (old now next : List (List ℕ × Meaning)) (kept : Bool) (rows : List (Bor (List ℕ) × Meaning)) (i : ℕ) (word : Bor (List ℕ)) (meaning : Meaning) →
    now ≡ old ++ words_meant which (words_of (take i rows)) → slice_get rows i ≡ Some (word, meaning) → kept ≡ is_meant which meaning → next ≡ now ++ cond kept ((word.now, meaning) ∷ []) [] →
    next ≡ old ++ words_meant which (words_of (take (i + 1) rows))
kept-next which old now next kept rows i word meaning so at is more =
    let before = words_of (take i rows) in
    let row : List (List ℕ × Meaning) = (word.now, meaning) ∷ [] in
    more ∙ (λ j. so j ++ cond (is j) row []) ∙ append_assoc old (words_meant which before) (words_meant which row)
    ∙ ap (λ z. old ++ z)
    (sym (filter-append (λ (entry : List ℕ × Meaning). is_meant which entry.1) before row)
    ∙ ap (words_meant which) (sym (words-append (take i rows) (word, meaning)) ∙ ap words_of (sym (take-at rows i (word, meaning) at))))
