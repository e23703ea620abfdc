-- Recursion along an order: each value is made of earlier ones alone.
use Rattle.std.specs.Prelude.{ℕ, zero, suc, if◌then◌else◌, nat_lt}

-- f at what is before i, and d elsewhere
abbrev pub before : {A : Type 0} → A → (ℕ → A) → ℕ → ℕ → A
before d f i j = if nat_lt j i then f j else d

-- the value at i, with at most n steps down
unfoldable pub within : {A : Type 0} → A → (ℕ → (ℕ → A) → A) → ℕ → ℕ → A
within d step zero i = d
within d step (suc n) i = step i (before d (within d step n) i)

-- the value at i, made by the step from the values before i
abbrev pub along : {A : Type 0} → A → (ℕ → (ℕ → A) → A) → ℕ → A
along d step i = within d step (suc i) i
