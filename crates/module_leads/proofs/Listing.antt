-- Entries that are listed one after another.
use Rattle.std.proofs.Common.{◌≡◌, List, [], ◌∷◌, ◌++◌, sym, ap, ◌∙◌, append_assoc}
use Rattle.tla_symbols.specs.declared.op.Op.{Op}
use Rattle.tla_model.specs.Entities.{Meaning}
use Rattle.module_model.specs.Exports.{Exports, of_symbols, of_words}
use Rattle.std.specs.Prelude.{ℕ}
use Rattle.name_exports.proofs.Bringing.{of_words-append}

-- one more is listed, before those that are left
pub listed-more : {A : Type 0} (old new before rest all : List A) (x : A) → new ≡ old ++ x ∷ [] → before ≡ x ∷ rest → old ++ before ≡ all → new ++ rest ≡ all
listed-more old new before rest all x longer is known = ap (λ z. z ++ rest) longer ∙ append_assoc old (x ∷ []) rest ∙ sym (ap (λ z. old ++ z) is) ∙ known

-- words that were taken over, others, and symbols
pub listed-all : (none first second all : Exports) (taken own words : List (List ℕ × Meaning)) (symbols : List (Op × Meaning)) → none ≡ [] → first ≡ none ++ of_words taken → second ≡ first ++ of_words own
    → all ≡ second ++ of_symbols symbols → taken ++ own ≡ words → all ≡ of_words words ++ of_symbols symbols
listed-all none first second all taken own words symbols empty one two three is =
    three
    ∙ ap (λ z. z ++ of_symbols symbols)
    (two ∙ ap (λ z. z ++ of_words own) (one ∙ ap (λ z. z ++ of_words taken) empty) ∙ sym (of_words-append taken own) ∙ ap of_words is)
