-- What is found of levels, as code has it.
use Rattle.std.specs.Prelude.{ℕ, List, [], ◌∷◌, Option, Some, None, if◌then◌else◌, map, nat_eq}
use Rattle.tla_symbols.specs.declared.lexeme.Lexeme.{Lexeme}
use Rattle.tla_model.specs.declared.entity.Level.{Level}
use Rattle.tree_kinds.specs.TreeLevels.{LevelFinding, Leveled, NotConstant, Refused, TooHigh}
use Rattle.found_levels.specs.declared.findings.LevelFinding.TheVariants as code

-- a finding
abbrev pub finding_of : code.the_data → LevelFinding
finding_of (code.Refused at) = Refused at
finding_of (code.NotConstant at) = NotConstant at
finding_of (code.TooHigh at) = TooHigh at
finding_of (code.Leveled name level) = Leveled name level

-- several
abbrev pub findings_of : List code.the_data → List LevelFinding
findings_of found = map finding_of found

-- one, or none
abbrev pub maybe_found : Option code.the_data → List LevelFinding
maybe_found None = []
maybe_found (Some found) = finding_of found ∷ []

-- a name, or none
abbrev pub maybe_name : Option Lexeme → List Lexeme
maybe_name None = []
maybe_name (Some name) = name ∷ []

-- a level, or that of constants
abbrev pub or_constant : Option Level → Level
or_constant None = Level.Constant
or_constant (Some level) = level

-- the level of the use that begins here: that of a finding, or else what is found behind it
abbrev pub level_before : LevelFinding → Option Level → ℕ → Option Level
level_before (Leveled l level) behind start = if nat_eq l.span.start start then Some level else behind
level_before finding behind start = behind
