-- Where steps lead.
use Rattle.std.specs.Prelude.{◌≡◌, ◌⊎◌}

-- one step or more lead from one to another
pub data Leads {A : Type 0} (Step : A → A → Type 0) : A → A → Type 0 where
  last : {a b : A} → Step a b → Leads Step a b
  more : {a b c : A} → Step a b → Leads Step b c → Leads Step a c

-- a step from one to another leads back: they are one, or steps lead from the other to the one
abbrev pub LeadsBack : {A : Type 0} → (A → A → Type 0) → A → A → Type 0
LeadsBack Step a b = (b ≡ a) ⊎ Leads Step b a
