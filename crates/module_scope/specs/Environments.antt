-- What a module name means at a place: a nested module, one round the place, or a file.
use Rattle.std.specs.Prelude.{ℕ, Bool, List, [], ◌∷◌, Option, Some, None, is_some}
use Rattle.std.specs.List.{list_any}
use Rattle.std.specs.Str.{bytes_eq}
use Rattle.tla_model.specs.Tables.{added, lookup}

-- the names of modules at a place, each once: a nested module that can be named, with what is known of it, or one round the
-- place. A name that is there stays
abbrev pub Environment : Type 0 → Type 0
Environment Known = List (List ℕ × Option Known)

-- in the module of the text
abbrev pub outermost : {Known : Type 0} → List ℕ → Environment Known
outermost name = (name, None) ∷ []

-- inside a nested module
abbrev pub inside : {Known : Type 0} → Environment Known → List ℕ → Environment Known
inside modules name = added bytes_eq modules name None

-- behind a nested module, by the environment before it
abbrev pub behind : {Known : Type 0} → Environment Known → List ℕ → Known → Environment Known
behind modules name known = added bytes_eq modules name (Some known)

-- what a name means: nothing here, and so a file; or a module round the place; or a nested module
abbrev pub meaning : {Known : Type 0} → Environment Known → List ℕ → Option (Option Known)
meaning modules name = lookup bytes_eq modules name

-- the name means no file
abbrev pub is_taken : {Known : Type 0} → Environment Known → List ℕ → Bool
is_taken modules name = is_some (meaning modules name)

-- ---- nested modules round a place

-- an environment, and the nested modules round the place, the innermost first: their names, and the environments before them
pub record Scope (Known : Type 0) : Type 0 where
  pub here : Environment Known
  pub round : List (List ℕ × Environment Known)

-- in the module of the text
abbrev pub first : {Known : Type 0} → List ℕ → Scope Known
first name = record { here = outermost name; round = [] }

-- inside a nested module
abbrev pub begun : {Known : Type 0} → Scope Known → List ℕ → Scope Known
begun scope name = record { here = inside scope.here name; round = (name, scope.here) ∷ scope.round }

-- behind the innermost nested module
abbrev pub ended : {Known : Type 0} → Known → Environment Known → List (List ℕ × Environment Known) → Scope Known
ended known here [] = record { here = here; round = [] }
ended known here (nested ∷ round) = record { here = behind nested.1 nested.0 known; round = round }

-- a nested module round the place has the name, whatever it means there
abbrev pub is_round : {Known : Type 0} → List (List ℕ × Environment Known) → List ℕ → Bool
is_round round name = list_any (λ nested. bytes_eq name nested.0) round
