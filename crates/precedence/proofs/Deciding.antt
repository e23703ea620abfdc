-- Tests that say whether a fact holds, as functions of what they test.
use Rattle.std.proofs.Common.{◌≡◌, ℕ, ◌<◌, Bool, true, false, refl, sym, subst, arith}
use Rattle.std.specs.Prelude.{◌↔◌, IsTrue, nat_lt}
use Rattle.std.proofs.lemmas.Bool.Decides.{nat_tests}
use Rattle.precedence.specs.declared.neighbour.Operator as Neighbour
use Rattle.precedence.specs.Choices.{same_edge}
use Rattle.precedence.specs.Ranges.{edge}
use Rattle.precedence.proofs.Orders.{same_edge-true, true-same_edge}

pub test-less : (b : Bool) (m n : ℕ) → (IsTrue b ↔ (m < n)) → b ≡ nat_lt m n
test-less true m n h = let l : m < n = h.0 refl in grind (arith, nat_tests)
test-less false m n h = go (nat_lt m n) refl
  where
    go : (c : Bool) → nat_lt m n ≡ c → false ≡ c
    go false e = refl
    go true e = h.1 (grind (arith, nat_tests))

edge-same : (a c : Neighbour.Operator) → edge a ≡ edge c → a ≡ c
edge-same a c e =
    let op : a.op ≡ c.op = cc in
    let fix : a.fix ≡ c.fix = cc in
    λ i. record { op = op i; fix = fix i }

pub test-same : (b : Bool) (a c : Neighbour.Operator) → (IsTrue b ↔ (a ≡ c)) → b ≡ same_edge (edge a) (edge c)
test-same true a c h = subst (λ z. true ≡ same_edge (edge a) (edge z)) (h.0 refl) (sym (same_edge-true (edge a)))
test-same false a c h = go (same_edge (edge a) (edge c)) refl
  where
    go : (d : Bool) → same_edge (edge a) (edge c) ≡ d → false ≡ d
    go false e = refl
    go true e = h.1 (edge-same a c (true-same_edge (edge a) (edge c) e))
