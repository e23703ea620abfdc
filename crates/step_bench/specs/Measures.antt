-- What is found in a text.
use Rattle.std.specs.Prelude.{◌≡◌, ℕ, ◌*◌, ◌≤◌, List, length, drop, Some, None}
use Rattle.std.specs.Str.{IsUtf8}
use Rattle.tla_symbols.specs.declared.lexeme.Lexeme.{Lexeme}
use Rattle.tla_lexeme.specs.ModulePart.{module_part}
use Rattle.tla_tree.specs.Arena as Arena
use Rattle.step_bench.specs.Bodies.{body_at}
use Rattle.step_bench.specs.Stepping.{HasStopped}
use Rattle.step_bench.specs.declared.measure.Found.{Found}
use Rattle.step_bench.specs.declared.measure.Fault.{Fault}

-- the lexemes of the text's module
abbrev pub IsLexed : List ℕ → List Lexeme → Type 0
IsLexed text lexemes = module_part text ≡ Some lexemes

-- where a machine stops in lexemes, and how many nodes it makes: at most eight for each lexeme
pub record HasFoundIn (lexemes : List Lexeme) (found : Found) : Type 0 where
  pub nodes : List Arena.Node
  pub made : found.nodes ≡ length nodes
  pub few : found.nodes ≤ 8 * found.stop.lexemes
  pub stopped : HasStopped lexemes nodes found.stop

-- the same behind the first `==` of a text's module
pub record HasFound (text : List ℕ) (found : Found) : Type 0 where
  pub lexemes : List Lexeme
  pub lexed : IsLexed text lexemes
  pub at : ℕ
  pub body : body_at 0 lexemes ≡ Some at
  pub nodes : List Arena.Node
  pub made : found.nodes ≡ length nodes
  pub few : found.nodes ≤ 8 * found.stop.lexemes
  pub stopped : HasStopped (drop at lexemes) nodes found.stop

-- what a fault says: of want of memory nothing
abbrev pub IsFault : List ℕ → Fault → Type 0
IsFault text Fault.NotUtf8 = IsUtf8 text → ⊥
IsFault text Fault.NoHeader = module_part text ≡ None
IsFault text Fault.NoDefinition = (lexemes : List Lexeme) × IsLexed text lexemes × (body_at 0 lexemes ≡ None)
IsFault text Fault.Memory = Unit {0}
