-- What the names of a module mean is told by the modules that it needs.
use Rattle.std.specs.Prelude.{◌≡◌, ℕ, List}
use Rattle.std.specs.List.{All}
use Rattle.tla_model.specs.Lexemes.{spelled}
use Rattle.unit_grammar.specs.Units.{ModuleUnits}
use Rattle.module_scope.specs.Imports.{imports_of}
use Rattle.module_model.specs.Exports.{ModuleView}
use Rattle.module_model.specs.Resolution.{findings, outside_in}

-- what each file is to others, by its module's name
abbrev pub Files : Type 0
Files = List ℕ → ModuleView

-- files that are the same under each name that a module needs
abbrev pub AgreeFor : List ℕ → ModuleUnits → Files → Files → Type 0
AgreeFor source units files others = All (λ l. files (spelled source l) ≡ others (spelled source l)) (imports_of source units)

-- over such files the same is found at its names, and it is the same to others: its entries at each path, and its parameters
pub record AsksNeeded (source : List ℕ) (units : ModuleUnits) : Type 0 where
  pub found : (files others : Files) → AgreeFor source units files others → findings files source units ≡ findings others source units
  pub outside : (files others : Files) → AgreeFor source units files others → outside_in files source units ≡ outside_in others source units
