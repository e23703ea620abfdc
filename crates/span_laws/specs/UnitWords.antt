-- The lexemes that units hold beside names and symbols, and where they stand.
use Rattle.std.specs.Prelude.{ℕ, List, [], ◌∷◌}
use Rattle.std.specs.List.{AllByRecursion}
use Rattle.std.specs.Option.{option_to_list}
use Rattle.tla_symbols.specs.declared.lexeme.Lexeme.{Lexeme}
use Rattle.tla_model.specs.Lexemes.{LiesIn}
use Rattle.unit_grammar.specs.Units.{UnitTree, OperatorDefinition, FunctionDefinition, ModuleDefinition, Instance, Assumption, Theorem, Line, ModuleBegin, ModuleEnd, ModuleUnits}

-- the words of a unit and the name that a claim has, its dashes, and the run of `=` that ends a nested module
abbrev pub unit_words : UnitTree → List Lexeme
unit_words (OperatorDefinition local definition) = option_to_list local
unit_words (FunctionDefinition local definition) = option_to_list local
unit_words (ModuleDefinition local definition) = option_to_list local
unit_words (Instance local instance) = option_to_list local
unit_words (Assumption word name claim) = word ∷ option_to_list name
unit_words (Theorem word name claim) = word ∷ option_to_list name
unit_words (Line dashes) = dashes ∷ []
unit_words (ModuleBegin dashes name extends) = dashes ∷ []
unit_words (ModuleEnd closing) = closing ∷ []
unit_words _ = []

-- those of all units of a module lie in a text
abbrev pub WordsLie : List ℕ → ModuleUnits → Type 0
WordsLie text found = AllByRecursion (λ unit. AllByRecursion (LiesIn text) (unit_words unit)) found.units
