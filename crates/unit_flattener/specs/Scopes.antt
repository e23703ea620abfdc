-- How the modules that can be named at a place are kept, by numbers, with those before each nested module round it.
use Rattle.std.specs.Prelude.{◌≡◌, ℕ, List, [], ◌∷◌, length, map, reverse}
use Rattle.module_scope.specs.Environments.{Environment, Scope}
use Rattle.module_scope.specs.Kept.{AreFronts}
use Rattle.unit_flattener.specs.declared.scope.Before.{Before}
use Rattle.unit_flattener.specs.declared.scope.ModuleNumbers.{ModuleNumbers}

-- the names of nested modules round a place, and how many module names stay behind each
abbrev pub left_behind : List (List ℕ × Environment ℕ) → List (List ℕ × ℕ)
left_behind [] = []
left_behind (nested ∷ round) = (nested.0, length nested.1) ∷ left_behind round

-- the same in code
abbrev pub kept_of : Before → List ℕ × ℕ
kept_of before = (before.name.now, before.modules)

-- this scope is kept
pub record IsKept (code : ModuleNumbers) (scope : Scope ℕ) : Type 0 where
  pub here : code.here ≡ scope.here
  pub round : map kept_of (reverse code.round.items) ≡ left_behind scope.round
  pub fronts : AreFronts scope.here scope.round
