-- Which of the module names of a text are compared with those of its nested modules.
use Rattle.std.specs.Prelude.{ℕ, List, ◌∷◌}
use Rattle.std.specs.List.{AllByRecursion}
use Rattle.tla_symbols.specs.declared.lexeme.Lexeme.{Lexeme}
pub use Rattle.tla_model.specs.Lexemes.{spelled, LiesIn}
use Rattle.tla_model.specs.ModuleNames.{module_names}
pub use Rattle.module_scope.specs.Imports.{enclosing_of, imports_of}
use Rattle.unit_grammar.specs.Units.{UnitTree, ModuleBegin, ModuleUnits}

-- the names that are compared: those of nested modules, and the module names
abbrev pub compared : UnitTree → List Lexeme
compared (ModuleBegin dashes name extends) = name ∷ extends
compared unit = module_names unit

-- the names that are compared lie in the text
pub record AreNamesPlaced (text : List ℕ) (found : ModuleUnits) : Type 0 where
  pub name : LiesIn text found.name
  pub units : AllByRecursion (λ unit. AllByRecursion (LiesIn text) (compared unit)) found.units
