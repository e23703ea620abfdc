-- The front of a module: its tree, or the one fault that is found before its names are looked at.
use Rattle.std.specs.Prelude.{◌≡◌, ◌≢◌, ◌<◌, ◌≤◌, ◌^◌, ℕ, zero, suc, List, ◌∷◌, length, take, drop, Bool, if◌then◌else◌, Some, None}
use Rattle.std.specs.Str.{is_utf8}
use Rattle.tla_symbols.specs.declared.lexeme.LexKind.{LexKind}
use Rattle.tla_symbols.specs.declared.lexeme.Lexeme.{Lexeme}
use Rattle.tla_lexeme.specs.ModulePart.{module_part}
use Rattle.tla_tree.specs.declared.unit.ModuleTree.{ModuleTree}
use Rattle.tla_model.specs.declared.Diagnostic.{Diagnostic}
use Rattle.tla_model.specs.Lexemes.{spelled}
use Rattle.unit_grammar.specs.Units.{ModuleUnits}
use Rattle.unit_grammar.specs.Derivation.{DerivesModule}
use Rattle.unit_grammar.specs.FirstBad.{IsFirstBad}
use Rattle.unit_grammar.specs.Heights.{module_height}
use Rattle.unit_grammar.specs.UnitNodes.{AreUnits}
use Rattle.unit_heights.specs.TooHigh.{MOST_HEIGHT, IsFirstHigh}

-- a module's units, or its one fault
pub data Front : Type 0 where
  Tree : (found : ModuleUnits) → Front
  Fault : (fault : Diagnostic) → Front

-- a fault of no bytes
abbrev pub fault_at : ℕ → ℕ → Diagnostic
fault_at code offset = record { code = code; span = record { start = offset; end = offset } }

-- a fault at a lexeme
abbrev pub fault_of : ℕ → Lexeme → Diagnostic
fault_of code l = record { code = code; span = l.span }

-- the greatest number that passes a test, of those up to a number; 0 where none does
abbrev pub greatest : (ℕ → Bool) → ℕ → ℕ
greatest p zero = zero
greatest p (suc n) = if p (suc n) then suc n else greatest p n

-- how many bytes the longest front has that is UTF-8
abbrev pub readable_len : List ℕ → ℕ
readable_len bytes = greatest (λ n. is_utf8 (take n bytes)) (length bytes)

-- the most bytes of one text
abbrev pub MOST_TEXT : ℕ
MOST_TEXT = 2 ^ 20

-- no lexeme begins, or the lexeme begins nothing that may stand there
abbrev pub syntax_code : LexKind → ℕ
syntax_code LexKind.Bad = 201
syntax_code _ = 202

-- the front of the lexemes of a text, for a file of this name
pub data IsFrontOfLexemes (name text : List ℕ) (lexemes : List Lexeme) : Front → Type 0 where
  bad : {index : ℕ} {l : Lexeme} {rest : List Lexeme}
      → IsFirstBad lexemes index → drop index lexemes ≡ l ∷ rest
      → IsFrontOfLexemes name text lexemes (Fault (fault_of (syntax_code l.kind) l))
  high : {found : ModuleUnits} {t : Lexeme}
      → DerivesModule found lexemes → IsFirstHigh found lexemes t
      → IsFrontOfLexemes name text lexemes (Fault (fault_of 105 t))
  misnamed : {found : ModuleUnits}
      → DerivesModule found lexemes → module_height found ≤ MOST_HEIGHT → spelled text found.name ≢ name
      → IsFrontOfLexemes name text lexemes (Fault (fault_of 103 found.name))
  whole : {found : ModuleUnits}
      → DerivesModule found lexemes → module_height found ≤ MOST_HEIGHT → spelled text found.name ≡ name
      → IsFrontOfLexemes name text lexemes (Tree found)

-- the front of some bytes, for a file of this name: the first of these faults, or the module
pub data IsFront (name bytes : List ℕ) : Front → Type 0 where
  not_utf8 : readable_len bytes < length bytes → IsFront name bytes (Fault (fault_at 101 (readable_len bytes)))
  too_large : readable_len bytes ≡ length bytes → MOST_TEXT < length bytes → IsFront name bytes (Fault (fault_at 104 0))
  no_header : readable_len bytes ≡ length bytes → length bytes ≤ MOST_TEXT → module_part bytes ≡ None → IsFront name bytes (Fault (fault_at 102 0))
  read : {lexemes : List Lexeme} {front : Front}
      → readable_len bytes ≡ length bytes → length bytes ≤ MOST_TEXT → module_part bytes ≡ Some lexemes
      → IsFrontOfLexemes name bytes lexemes front → IsFront name bytes front

-- the tree in code is the module, with the text as its source
pub record IsTree (tree : ModuleTree) (found : ModuleUnits) (text : List ℕ) : Type 0 where
  pub name : tree.name ≡ found.name
  pub extends : tree.extends ≡ found.extends
  pub units : AreUnits tree.tree tree.units found.units
  pub height : tree.height ≡ module_height found
  pub source : tree.source ≡ text

-- the tree is the front of the lexemes
abbrev pub IsReadFront : List ℕ → List ℕ → List Lexeme → ModuleTree → Type 0
IsReadFront name text lexemes tree = (found : ModuleUnits) × IsFrontOfLexemes name text lexemes (Tree found) × IsTree tree found text
