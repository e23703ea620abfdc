-- What the modules of names are at a place, and what stands behind their instances.
use Rattle.std.specs.Prelude.{ℕ, List, [], ◌∷◌, Option, Some, None}
use Rattle.tla_symbols.specs.declared.lexeme.Lexeme.{Lexeme}
use Rattle.tla_model.specs.declared.ids.UnitId.{UnitId}
use Rattle.tla_model.specs.Entities.{Text, declaration, place_in}
use Rattle.tla_model.specs.Lexemes.{spelled}
use Rattle.module_model.specs.Exports.{Behind, Known, ModuleView, and_known, behind_instance, exported, known_among, known_as, none_known, nothing}
use Rattle.module_model.specs.TreeFindings.{nowhere}
use Rattle.module_scope.specs.Environments.{Environment, meaning}

-- a nested module that can be named, or else the file; the name of a module round this place means none
abbrev pub module_under : (List ℕ → ModuleView) → Option (Option ModuleView) → List ℕ → ModuleView
module_under files None name = files name
module_under files (Some None) name = nothing
module_under files (Some (Some view)) name = view

-- what the module of a name is, by the files and by the modules that can be named
abbrev pub module_at : (List ℕ → ModuleView) → Environment ModuleView → List ℕ → ModuleView
module_at files modules name = module_under files (meaning modules name) name

-- an INSTANCE, by where the module names of instances begin in its text
abbrev pub unit_of : Text → List ℕ → Lexeme → UnitId
unit_of text words l = record { «module» = text.file; place = place_in words l.span.start }

-- behind the instances that a module exports
abbrev pub exported_known : ModuleView → Known
exported_known view = known_among view (exported view)

module _ (text : Text) (named : List ℕ → ModuleView) where
  -- the module of a name
  abbrev pub view_of : Lexeme → ModuleView
  view_of l = named (spelled text.source l)

  -- behind the instances that these modules export, which are extended
  abbrev pub known_from_all : List Lexeme → Known
  known_from_all [] = none_known
  known_from_all (l ∷ rest) = and_known (exported_known (view_of l)) (known_from_all rest)

  -- behind an instance of the module of a name; one of no module has nothing behind it
  abbrev pub behind_named : Option Lexeme → Behind
  behind_named None = nowhere
  behind_named (Some l) = behind_instance (view_of l)

  -- behind instances that the text names, each with the name of its module
  abbrev pub known_named : List (Lexeme × Option Lexeme) → Known
  known_named [] = none_known
  known_named (instance ∷ rest) = and_known (known_as (declaration text instance.0) (behind_named instance.1)) (known_named rest)
