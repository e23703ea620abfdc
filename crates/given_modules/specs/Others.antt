-- Names of other modules than one, and those of that module.
use Rattle.std.specs.Prelude.{ℕ, Bool, false, ◌||◌, List, [], ◌∷◌}
use Rattle.std.specs.Str.{bytes_eq}
use Rattle.tla_model.specs.declared.ids.DeclId.{DeclId}
use Rattle.tla_model.specs.declared.ids.UnitId.{UnitId}
use Rattle.tla_model.specs.Entities.{Meaning}
use Rattle.tla_model.specs.Tables.{Named}
use Rattle.tree_kinds.specs.Standing.{Outside}
use Rattle.accepted_modules.specs.Named.{AllNamed}
use Rattle.given_depths.specs.Own.{IsOfOthers}

-- a name is declared in another module than this, and came through INSTANCEs of others
abbrev pub IsNamedOf : List ℕ → Named → Meaning → Type 0
IsNamedOf title name meaning = IsOfOthers title meaning

-- so are all names of a module
abbrev pub BringsOthers : List ℕ → Outside → Type 0
BringsOthers title outside = AllNamed (IsNamedOf title) outside.view

-- one of these INSTANCEs stands in the module of this title
abbrev pub came_through : List ℕ → List UnitId → Bool
came_through title [] = false
came_through title (unit ∷ units) = bytes_eq unit.«module» title || came_through title units

-- what is declared so in the module of this title, or came through an INSTANCE of it, is of that module
abbrev pub is_of : List ℕ → DeclId → List UnitId → Bool
is_of title decl via = bytes_eq decl.«module» title || came_through title via
