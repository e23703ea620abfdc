-- Recursion along an order unfolds once.
use Rattle.std.proofs.Common.{◌≡◌, ℕ, zero, suc, ◌<◌, Bool, true, false, cond, refl, ap, ◌∙◌, arith}
use Rattle.std.specs.Prelude.{nat_lt}
use Rattle.std.proofs.lemmas.Bool.{ltb-true, lt-ltb}
use mathlib.Core.Path.{fun_ext}
use Rattle.order_rec.specs.Earlier.{before, within, along}

-- only what is before i counts
pub before-same : {A : Type 0} (d : A) (f g : ℕ → A) (i : ℕ) → ((j : ℕ) → j < i → f j ≡ g j) → before d f i ≡ before d g i
before-same {A} d f g i h = fun_ext (λ j. choice j (nat_lt j i) refl)
  where
    choice : (j : ℕ) (b : Bool) → nat_lt j i ≡ b → cond b (f j) d ≡ cond b (g j) d
    choice j true e = h j (ltb-true j i e)
    choice j false e = refl

pub before-lt : {A : Type 0} (d : A) (f : ℕ → A) (i j : ℕ) → j < i → before d f i j ≡ f j
before-lt d f i j h = ap (λ b. cond b (f j) d) (lt-ltb j i h)

-- enough steps are enough
pub within-enough : {A : Type 0} (d : A) (step : ℕ → (ℕ → A) → A) (m n i : ℕ) → i < m → i < n → within d step m i ≡ within d step n i
unfolding within
within-enough d step zero n i hm hn = absurd (omega arith)
within-enough d step (suc m) zero i hm hn = absurd (omega arith)
within-enough d step (suc m) (suc n) i hm hn =
    ap (step i) (before-same d (within d step m) (within d step n) i (λ j l. within-enough d step m n j (omega arith) (omega arith)))

-- a value is made of the earlier values
pub along-step : {A : Type 0} (d : A) (step : ℕ → (ℕ → A) → A) (i : ℕ) → along d step i ≡ step i (before d (along d step) i)
unfolding within
along-step d step i = ap (step i) (before-same d (within d step i) (along d step) i (λ j l. within-enough d step i (suc j) j l (omega arith)))

-- what holds of d, and of a step from where it holds, holds along the order
pub within-holds : {A : Type 0} (P : A → Type 0) (d : A) (step : ℕ → (ℕ → A) → A) → P d → ((i : ℕ) (f : ℕ → A) → ((j : ℕ) → P (f j)) → P (step i f)) → (n i : ℕ) → P (within d step n i)
unfolding within
within-holds P d step pd ps zero i = pd
within-holds {A} P d step pd ps (suc n) i = kept (within d step n) (λ j. within-holds P d step pd ps n j)
  where
    choice : (f : ℕ → A) → ((j : ℕ) → P (f j)) → (j : ℕ) (b : Bool) → P (cond b (f j) d)
    choice f h j true = h j
    choice f h j false = pd

    kept : (f : ℕ → A) → ((j : ℕ) → P (f j)) → P (step i (before d f i))
    kept f h = ps i (before d f i) (λ j. choice f h j (nat_lt j i))

pub along-holds : {A : Type 0} (P : A → Type 0) (d : A) (step : ℕ → (ℕ → A) → A) → P d → ((i : ℕ) (f : ℕ → A) → ((j : ℕ) → P (f j)) → P (step i f)) → (i : ℕ) → P (along d step i)
along-holds P d step pd ps i = within-holds P d step pd ps (suc i) i

-- steps that agree below n give the same there
pub within-same : {A : Type 0} (d : A) (step step' : ℕ → (ℕ → A) → A) (n : ℕ) → ((i : ℕ) → i < n → (f : ℕ → A) → step i f ≡ step' i f) → (m i : ℕ) → i < n → within d step m i ≡ within d step' m i
unfolding within
within-same d step step' n h zero i l = refl
within-same d step step' n h (suc m) i l =
    ap (step i) (before-same d (within d step m) (within d step' m) i (λ j k. within-same d step step' n h m j (omega arith)))
    ∙ h i l (before d (within d step' m) i)

pub along-same : {A : Type 0} (d : A) (step step' : ℕ → (ℕ → A) → A) (n : ℕ) → ((i : ℕ) → i < n → (f : ℕ → A) → step i f ≡ step' i f) → (i : ℕ) → i < n → along d step i ≡ along d step' i
along-same d step step' n h i l = within-same d step step' n h (suc i) i l
