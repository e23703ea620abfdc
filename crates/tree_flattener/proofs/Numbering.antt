-- Questions that get their number once it is known.
use Rattle.std.proofs.Common.{◌≡◌, ℕ, zero, suc, ◌+◌, ◌<◌, List, [], ◌∷◌, ◌++◌, length, get_or, take, drop, map, refl, ap, ◌∙◌, add-one, arith}
use Rattle.std.specs.Prelude.{slice_set}
use Rattle.tree_flattener.specs.declared.state.Question.{Question}
use Rattle.tree_flattener.specs.Steps.{about, question_about}

module _ (f : Question → Question) where
  set-mid : (start : List Question) (i : ℕ) (d : Question) → i < length start → slice_set (map f (take i start) ++ drop i start) i (f (get_or (map f (take i start) ++ drop i start) i d)) ≡ map f (take (suc i) start) ++ drop (suc i) start
  set-mid [] i d there = absurd (omega arith)
  set-mid (x ∷ start) zero d there = refl
  set-mid (x ∷ start) (suc i) d there = ap (λ z. f x ∷ z) (set-mid start i d (omega (arith, there)))

pub give-onward : (number : ℕ) (start now : List Question) (i : ℕ) (d q : Question) → i < length start → now ≡ map (question_about number) (take i start) ++ drop i start
    → q.frame ≡ (get_or now i d).frame → q.asked ≡ about number (get_or now i d).asked
    → slice_set now i q ≡ map (question_about number) (take (i + 1) start) ++ drop (i + 1) start
give-onward number start now i d q there holds same is =
    let f = question_about number in
    ap (slice_set now i) (λ j. record { frame = same j; asked = is j })
    ∙ ap (λ z. slice_set z i (f (get_or z i d))) holds
    ∙ rw add-one (set-mid f start i d there)
