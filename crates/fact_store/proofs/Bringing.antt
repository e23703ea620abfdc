-- Facts that are brought up, step by step.
use Rattle.std.proofs.Common.{◌≡◌, ℕ, ◌≤◌, Bool, List, Option, refl, sym, ap, ◌∙◌, subst, arith}
use Rattle.fact_store.specs.declared.slot.Slot.{Slot}
use Rattle.fact_values.specs.States.{State}
use Rattle.fact_store.specs.Right.{outlines, IsRight, Brings}

module _ {Own F : Type 0} (own_of : List ℕ → List ℕ → Own) (needs_of : Own → Option (List (List ℕ))) (fact_of : List ℕ → Own → List (List ℕ × State F) → F) (same : F → F → Bool) where
  pub brings_none : (old new : List (Slot Own F)) (marks : List Bool) (first last : ℕ) → new ≡ old → IsRight own_of needs_of fact_of same old marks → first ≤ last → Brings own_of needs_of fact_of same old new marks marks first last
  brings_none old new marks first last e r l = record {
    outline_kept = ap outlines e;
    right = subst (λ (ss : List (Slot Own F)). IsRight own_of needs_of fact_of same ss marks) (sym e) r;
    marks = refl;
    kept = λ i m. m;
    rises = l;
  }

  pub brings_then : (a b c : List (Slot Own F)) (x y z : List Bool) (i j k : ℕ) → Brings own_of needs_of fact_of same a b x y i j → Brings own_of needs_of fact_of same b c y z j k → Brings own_of needs_of fact_of same a c x z i k
  brings_then a b c x y z i j k p q = record {
    outline_kept = q.outline_kept ∙ p.outline_kept;
    right = q.right;
    marks = q.marks ∙ p.marks;
    kept = λ n m. q.kept n (p.kept n m);
    rises = omega (arith, p.rises, q.rises);
  }
