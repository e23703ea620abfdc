-- How many modules of some texts nothing current is kept of.
use Rattle.std.specs.Prelude.{◌≡◌, ◌≤◌, ◌⊎◌, ℕ, List, Option, Some, IsSome, length, map, true}
use Rattle.std.specs.FinMap.{get}
use Rattle.fact_values.specs.Names.{Texts, has}
use Rattle.module_interfaces.specs.Interfaces.{Broken, ImportState, Refused, imports_in}

-- what a module is to one that needs it: a broken one is as one that is refused
abbrev pub as_needed : ImportState → ImportState
as_needed Broken = Refused
as_needed state = state

-- what the modules are to a module that it needs, under their names, in the order of its text
abbrev pub needs_in : Texts → List ℕ → List (List ℕ × ImportState)
needs_in texts name = map (λ need. (need.0, as_needed need.1)) (imports_in texts name)

-- what was found of a module was made from this: from its text, and from what the modules were to it that it needs
pub record Basis : Type 0 where
  pub bytes : List ℕ
  pub needs : List (List ℕ × ImportState)

-- what is kept of modules, by their names: from what it was made
abbrev pub Kept : Type 0
Kept = List ℕ → Option Basis

-- what is kept of a module was made from its present text, and from what the modules are to it now
pub record IsCurrent (kept : Kept) (texts : Texts) (name : List ℕ) : Type 0 where
  pub basis : Basis
  pub there : kept name ≡ Some basis
  pub text : get texts name ≡ Some basis.bytes
  pub needs : needs_in texts name ≡ basis.needs

-- the modules of which nothing current is kept are among so many names
pub record Owes (kept : Kept) (texts : Texts) (owed : ℕ) : Type 0 where
  pub names : List (List ℕ)
  pub few : length names ≤ owed
  pub all : (name : List ℕ) → IsSome (get texts name) → IsCurrent kept texts name ⊎ (has names name ≡ true)

-- what is current stays so with what is kept behind it
abbrev pub StayCurrent : Kept → Kept → Texts → Type 0
StayCurrent before after texts = (name : List ℕ) → IsCurrent before texts name → IsCurrent after texts name
