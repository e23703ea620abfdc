-- Indices in rows, and marks on indices.
use Rattle.std.proofs.Common.{◌≡◌, ◌≢◌, ℕ, zero, suc, ◌<◌, Bool, true, false, List, [], ◌∷◌, ◌++◌, refl, sym, ap, ◌∙◌, inl, inr, length, arith, nat_eq}
use Rattle.std.specs.Prelude.{◌||◌, slice_set}
use Rattle.std.proofs.lemmas.Bool.{eq-eqb, eqb-true}
use Rattle.std.proofs.Math.Dec.{eqb}
use Rattle.std.proofs.lemmas.List.Folds.{list_any-append}
use Rattle.list_laws.proofs.Tests.{or-false}
use Rattle.fact_store.specs.Plans.{among, is_marked}
use Rattle.fact_values.proofs.NameLemmas.{true_or_false}

pub among-push : (row : List ℕ) (p i : ℕ) → among (row ++ p ∷ []) i ≡ (among row i || nat_eq i p)
among-push row p i = list_any-append (nat_eq i) row (p ∷ []) ∙ ap (λ b. among row i || b) (or-false (nat_eq i p))

pub is_marked-set_same : (marks : List Bool) (p : ℕ) (b : Bool) → p < length marks → is_marked (slice_set marks p b) p ≡ b
is_marked-set_same [] p b l = absurd (omega arith)
is_marked-set_same (m ∷ marks) zero b l = refl
is_marked-set_same (m ∷ marks) (suc p) b l = is_marked-set_same marks p b (omega arith)

pub is_marked-set_other : (marks : List Bool) (p i : ℕ) (b : Bool) → i ≢ p → is_marked (slice_set marks p b) i ≡ is_marked marks i
is_marked-set_other [] p i b n = refl
is_marked-set_other (m ∷ marks) zero zero b n = absurd (n refl)
is_marked-set_other (m ∷ marks) zero (suc i) b n = refl
is_marked-set_other (m ∷ marks) (suc p) zero b n = refl
is_marked-set_other (m ∷ marks) (suc p) (suc i) b n = is_marked-set_other marks p i b (λ e. n (ap suc e))

pub is_marked-unset : (marks : List Bool) (i : ℕ) → is_marked (marks ++ false ∷ []) i ≡ is_marked marks i
is_marked-unset [] zero = refl
is_marked-unset [] (suc i) = refl
is_marked-unset (m ∷ marks) zero = refl
is_marked-unset (m ∷ marks) (suc i) = is_marked-unset marks i

pub marked_kept : (marks : List Bool) (p i : ℕ) → p < length marks → is_marked marks i ≡ true → is_marked (slice_set marks p true) i ≡ true
marked_kept marks p i l m = elim (true_or_false (nat_eq i p)) as (λ _. is_marked (slice_set marks p true) i ≡ true) [
  | inl same ↦ ap (is_marked (slice_set marks p true)) (eqb-true i p same) ∙ is_marked-set_same marks p true l
  | inr other ↦ is_marked-set_other marks p i true (λ e. let h : true ≡ false = sym (eq-eqb i p e) ∙ other in cc h) ∙ m
]
