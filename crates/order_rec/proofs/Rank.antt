-- Recursion along a rank unfolds once, and does not see what it does not reach.
use Rattle.std.proofs.Common.{◌≡◌, ℕ, zero, suc, ◌<◌, Bool, true, false, cond, refl, ap, ◌∙◌, arith}
use Rattle.std.specs.Prelude.{nat_lt}
use Rattle.std.proofs.lemmas.Bool.{ltb-true, lt-ltb}
use mathlib.Core.Path.{fun_ext}
use Rattle.order_rec.specs.Ranked.{lower, within_rank, ranked}

module _ {X A : Type 0} (d : A) where
  lower-same : (r : X → ℕ) (f g : X → A) (x : X) → ((y : X) → r y < r x → f y ≡ g y) → lower d r f x ≡ lower d r g x
  lower-same r f g x h = fun_ext (λ y. choice y (nat_lt (r y) (r x)) refl)
    where
      choice : (y : X) (b : Bool) → nat_lt (r y) (r x) ≡ b → cond b (f y) d ≡ cond b (g y) d
      choice y true e = h y (ltb-true (r y) (r x) e)
      choice y false e = refl

  pub lower-lt : (r : X → ℕ) (f : X → A) (x y : X) → r y < r x → lower d r f x y ≡ f y
  lower-lt r f x y h = ap (λ b. cond b (f y) d) (lt-ltb (r y) (r x) h)

  within-enough : (r : X → ℕ) (step : X → (X → A) → A) (m n : ℕ) (x : X) → r x < m → r x < n → within_rank d r step m x ≡ within_rank d r step n x
  unfolding within_rank
  within-enough r step zero n x hm hn = absurd (omega arith)
  within-enough r step (suc m) zero x hm hn = absurd (omega arith)
  within-enough r step (suc m) (suc n) x hm hn =
      ap (step x) (lower-same r (within_rank d r step m) (within_rank d r step n) x (λ y l. within-enough r step m n y (omega arith) (omega arith)))

  -- a value is made of those of lower rank
  pub ranked-step : (r : X → ℕ) (step : X → (X → A) → A) (x : X) → ranked d r step x ≡ step x (lower d r (ranked d r step) x)
  unfolding within_rank
  ranked-step r step x = ap (step x) (lower-same r (within_rank d r step (r x)) (ranked d r step) x (λ y l. within-enough r step (r x) (suc (r y)) y l (omega arith)))

  -- two recursions that agree on a closed part, ranks too, give the same there
  within-closed : (P : X → Type 0) (r s : X → ℕ) (step step' : X → (X → A) → A) → ((x : X) → P x → r x ≡ s x) → ((x : X) → P x → (f g : X → A) → ((y : X) → P y → f y ≡ g y) → step x f ≡ step' x g) → (n : ℕ) (x : X) → P x → within_rank d r step n x ≡ within_rank d s step' n x
  unfolding within_rank
  within-closed P r s step step' ranks steps zero x p = refl
  within-closed P r s step step' ranks steps (suc n) x p =
      steps x p (lower d r (within_rank d r step n) x) (lower d s (within_rank d s step' n) x)
      (λ y q. ap (λ k. cond (nat_lt k (r x)) (within_rank d r step n y) d) (ranks y q) ∙ ap (λ k. cond (nat_lt (s y) k) (within_rank d r step n y) d) (ranks x p)
      ∙ ap (λ v. cond (nat_lt (s y) (s x)) v d) (within-closed P r s step step' ranks steps n y q))

  pub ranked-closed : (P : X → Type 0) (r s : X → ℕ) (step step' : X → (X → A) → A) → ((x : X) → P x → r x ≡ s x) → ((x : X) → P x → (f g : X → A) → ((y : X) → P y → f y ≡ g y) → step x f ≡ step' x g) → (x : X) → P x → ranked d r step x ≡ ranked d s step' x
  ranked-closed P r s step step' ranks steps x p =
      within-closed P r s step step' ranks steps (suc (r x)) x p ∙ ap (λ k. within_rank d s step' (suc k) x) (ranks x p)
