-- Which of the waiting operators are closed.
use Rattle.std.proofs.Common.{◌≡◌, ℕ, zero, suc, ◌-◌, ◌<◌, ◌≤◌, List, [], ◌∷◌, ◌++◌, Some, refl, ap, sym, subst, ◌∙◌, arith}
use Rattle.std.specs.Prelude.{length, take, drop, slice_get}
use Rattle.precedence.specs.declared.Choice.{Choice}
use Rattle.precedence.specs.declared.Choice.TheVariants.{Ends}
use Rattle.precedence.specs.declared.neighbour.Operator.{Operator}
use Rattle.precedence.specs.Waiting.{outcome, innermost_outcome, AllEnd, Closes}

-- the innermost operator
pub last-outcome : (xs : List Operator) (x : Operator) → Some x ≡ slice_get xs (length xs - 1) → (coming : Operator) → innermost_outcome xs coming ≡ outcome x coming
last-outcome [] x e coming = cc
last-outcome (y ∷ []) x e coming = let q : y ≡ x = cc in ap (λ z. outcome z coming) q
last-outcome (y ∷ z ∷ zs) x e coming = last-outcome (z ∷ zs) x (e ∙ (let q : suc (suc (length zs)) - 1 ≡ suc (length zs) = omega arith in let r : suc (length zs) - 1 ≡ length zs = omega arith in ap (λ n. slice_get (y ∷ z ∷ zs) n) q ∙ ap (λ n. slice_get (z ∷ zs) n) (sym r))) coming

-- one more ends
ended-suc : (xs : List Operator) (n : ℕ) (coming : Operator) → n < length xs → innermost_outcome (take (suc n) xs) coming ≡ Ends → AllEnd (drop (suc n) xs) coming → AllEnd (drop n xs) coming
ended-suc [] n coming l e all = absurd (omega (arith, l))
ended-suc (x ∷ xs) zero coming l e all = (e, all)
ended-suc (x ∷ []) (suc n) coming l e all = absurd (omega (arith, l))
ended-suc (x ∷ y ∷ ys) (suc n) coming l e all = ended-suc (y ∷ ys) n coming (omega (arith, l)) e all

pub some-ends : (xs : List Operator) (n : ℕ) (coming : Operator) → innermost_outcome (take n xs) coming ≡ Ends → 0 < n
some-ends xs zero coming e = cc
some-ends xs (suc n) coming e = omega arith

pub ended-step : (xs : List Operator) (n : ℕ) (coming : Operator) → n ≤ length xs → innermost_outcome (take n xs) coming ≡ Ends → AllEnd (drop n xs) coming → AllEnd (drop (n - 1) xs) coming
ended-step xs n coming l e all =
    let p : 0 < n = some-ends xs n coming e in
    let q : suc (n - 1) ≡ n = omega (arith, p) in
    ended-suc xs (n - 1) coming (omega (arith, l, p)) (subst (λ k. innermost_outcome (take k xs) coming ≡ Ends) (sym q) e) (subst (λ k. AllEnd (drop k xs) coming) (sym q) all)

-- closing has one outcome
all-innermost : (x : Operator) (xs more : List Operator) (coming : Operator) → AllEnd (x ∷ xs ++ more) coming → innermost_outcome (x ∷ xs) coming ≡ Ends
all-innermost x [] more coming all = all.0
all-innermost x (y ∷ ys) more coming all = all-innermost y ys more coming all.1

inside-stops : (x : Operator) (xs : List Operator) (coming : Operator) → (innermost_outcome (x ∷ xs) coming ≡ Ends → ⊥) → innermost_outcome xs coming ≡ Ends → ⊥
inside-stops x [] coming f e = cc
inside-stops x (y ∷ ys) coming f e = f e

one-kept : (kept closed other further : List Operator) (coming : Operator) → kept ++ closed ≡ other ++ further → AllEnd closed coming → AllEnd further coming → (innermost_outcome kept coming ≡ Ends → ⊥) → (innermost_outcome other coming ≡ Ends → ⊥) → kept ≡ other
one-kept [] closed [] further coming e a b f g = refl
one-kept [] closed (y ∷ ys) further coming e a b f g = absurd (g (all-innermost y ys further coming (subst (λ xs. AllEnd xs coming) e a)))
one-kept (x ∷ xs) closed [] further coming e a b f g = absurd (f (all-innermost x xs closed coming (subst (λ xs. AllEnd xs coming) (sym e) b)))
one-kept (x ∷ xs) closed (y ∷ ys) further coming e a b f g =
    let first : x ≡ y = cc in
    let rest : xs ++ closed ≡ ys ++ further = cc in
    let same : xs ≡ ys = one-kept xs closed ys further coming rest a b (inside-stops x xs coming f) (inside-stops y ys coming g) in
    rw (first, same) refl

pub closes-one : (waiting kept closed other further : List Operator) (coming : Operator) (stop halt : Choice) → Closes waiting coming kept closed stop → Closes waiting coming other further halt → (stop ≡ Ends → ⊥) → (halt ≡ Ends → ⊥) → (kept ≡ other) × (stop ≡ halt)
closes-one waiting kept closed other further coming stop halt c d f g =
    let same : kept ≡ other = one-kept kept closed other further coming (sym c.parts ∙ d.parts) c.ended d.ended (λ e. f (sym c.stopped ∙ e)) (λ e. g (sym d.stopped ∙ e)) in
    (same, sym c.stopped ∙ (ap (λ xs. innermost_outcome xs coming) same ∙ d.stopped))
