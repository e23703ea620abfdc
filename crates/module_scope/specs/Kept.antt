-- How the scope of a place is kept: the environment, and the names of the nested modules round the place in a set, and how
-- many of either stay behind each nested module.
use Rattle.std.specs.Prelude.{◌≡◌, ℕ, List, [], ◌∷◌, ◌++◌, if◌then◌else◌, length, map, reverse, take}
use Rattle.std.specs.Borrow.{Bor}
use Rattle.std.specs.List.{list_any}
use Rattle.std.specs.Str.{bytes_eq}
use Rattle.module_scope.specs.declared.nesting.Nesting.{Nesting}
use Rattle.module_scope.specs.declared.nesting.Nested.{Nested}
use Rattle.module_scope.specs.Environments.{Environment, Scope}

-- names and one more; one that is there already stays where it is
abbrev pub once : List (List ℕ) → List ℕ → List (List ℕ)
once names name = if list_any (bytes_eq name) names then names else names ++ name ∷ []

-- the names of nested modules, the outermost first
abbrev pub each_once : {Known : Type 0} → List (List ℕ × Environment Known) → List (List ℕ)
each_once [] = []
each_once (nested ∷ round) = once (each_once round) nested.0

-- their names, and how many names of either stay behind them
abbrev pub left_behind : {Known : Type 0} → List (List ℕ × Environment Known) → List (List ℕ × ℕ × ℕ)
left_behind [] = []
left_behind (nested ∷ round) = (nested.0, length nested.1, length (each_once round)) ∷ left_behind round

-- a nested module's name, and how many module names and names of nested modules stay behind it
abbrev pub kept_of : Nested → List ℕ × ℕ × ℕ
kept_of nested = (nested.name.now, nested.modules, nested.round)

-- the names in a set
abbrev pub names_of : List (Bor (List ℕ)) → List (List ℕ)
names_of keys = map (λ key. key.now) keys

-- each environment begins with the one round it
abbrev pub AreFronts : {Known : Type 0} → Environment Known → List (List ℕ × Environment Known) → Type 0
AreFronts here [] = Unit {0}
AreFronts here (nested ∷ round) = (take (length nested.1) here ≡ nested.1) × AreFronts nested.1 round

-- this scope is kept
pub record IsAt {Known : Type 0} (kept : Nesting Known) (scope : Scope Known) : Type 0 where
  pub here : kept.modules ≡ scope.here
  pub names : names_of kept.names.keys ≡ each_once scope.round
  pub round : map kept_of (reverse kept.round.items) ≡ left_behind scope.round
  pub fronts : AreFronts scope.here scope.round
