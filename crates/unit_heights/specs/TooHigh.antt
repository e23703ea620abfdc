-- How high a module may be, and which unit of one that is higher is the first that is too high.
use Rattle.std.specs.Prelude.{◌≡◌, ◌<◌, ◌≤◌, ℕ, List, [], ◌∷◌, ◌++◌}
use Rattle.tla_symbols.specs.declared.lexeme.Lexeme.{Lexeme}
use Rattle.tla_tree.specs.declared.unit.ModuleTree.{ModuleTree}
use Rattle.unit_grammar.specs.Units.{UnitTree, ModuleUnits}
use Rattle.unit_grammar.specs.UnitNodes.{IsModule}
use Rattle.unit_grammar.specs.Derivation.{BeginsModule, DerivesUnit, DerivesUnits, DerivesModule, first}
use Rattle.unit_grammar.specs.Heights.{highest_unit}

-- the most height of one module
abbrev pub MOST_HEIGHT : ℕ
MOST_HEIGHT = 1000

-- the first lexeme of the first unit of the outermost module that is too high
pub record IsFirstHigh (found : ModuleUnits) (lexemes : List Lexeme) (t : Lexeme) : Type 0 where
  pub dashes : Lexeme
  pub header : List Lexeme
  pub before : List Lexeme
  pub more : List Lexeme
  pub after : List Lexeme
  pub closing : Lexeme
  pub lower : List UnitTree
  pub unit : List UnitTree
  pub rest : List UnitTree
  pub spells : lexemes ≡ header ++ (before ++ ((t ∷ more) ++ (after ++ closing ∷ [])))
  pub are : found.units ≡ lower ++ (unit ++ rest)
  pub begins : BeginsModule dashes found.name found.extends header
  pub derives_lower : DerivesUnits lower before t
  pub derives_unit : DerivesUnit unit (t ∷ more) (first after closing)
  pub derives_rest : DerivesUnits rest after closing
  pub low : highest_unit 0 lower ≤ MOST_HEIGHT
  pub high : MOST_HEIGHT < highest_unit 0 unit

-- the tree is a module that derives the lexemes, as it was read
abbrev pub IsRead : ModuleTree → List Lexeme → Type 0
IsRead tree lexemes = (found : ModuleUnits) × DerivesModule found lexemes × IsModule tree found

-- the lexeme is the first of a unit that is too high
abbrev pub IsHigh : ModuleTree → List Lexeme → Lexeme → Type 0
IsHigh tree lexemes t = (found : ModuleUnits) × DerivesModule found lexemes × IsModule tree found × IsFirstHigh found lexemes t
