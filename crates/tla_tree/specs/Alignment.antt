-- Aligned lists: what their columns ask of lexemes.
use Rattle.std.specs.Prelude.{◌≡◌, ℕ, ◌+◌, ◌<◌, ◌≤◌, ◌⊎◌, Bool, true, false, ◌||◌, is_some, IsTrue, List, Option, Some, None}
use Rattle.std.specs.List.{AllByRecursion}
use Rattle.tla_symbols.specs.declared.op.Op.TheVariants as Op
use Rattle.tla_symbols.specs.declared.place.Fix.TheVariants as Fix
use Rattle.tla_symbols.specs.declared.lexeme.LexKind.{LexKind}
use Rattle.tla_symbols.specs.declared.lexeme.Mark.TheVariants as Mark
use Rattle.tla_symbols.specs.declared.lexeme.Lexeme.{Lexeme}
use Rattle.tla_symbols.specs.Symbols.{range_of}

-- only the spellings `/\` and `\/` are bullets: two bytes
abbrev pub IsBullet : Lexeme → Type 0
IsBullet lexeme =
    ((lexeme.kind ≡ LexKind.Sym Op.And) ⊎ (lexeme.kind ≡ LexKind.Sym Op.Or)) × (lexeme.span.end ≡ lexeme.span.start + 2)

-- a lexeme goes on with the list that this bullet opened: the same bullet in its column
abbrev pub GoesOn : Lexeme → Lexeme → Type 0
GoesOn first lexeme = IsBullet lexeme × (lexeme.kind ≡ first.kind) × (lexeme.col ≡ first.col)

-- the lexemes stand in columns from this one on
abbrev pub From : ℕ → List Lexeme → Type 0
From column lexemes = AllByRecursion (λ lexeme. column ≤ lexeme.col) lexemes

-- whether a lexeme would make an operand of what stands before it
abbrev pub takes_left : LexKind → Bool
takes_left (LexKind.Sym op) = is_some (range_of op Fix.Infix) || is_some (range_of op Fix.Postfix)
takes_left (LexKind.Mark Mark.Dot) = true
takes_left (LexKind.Mark Mark.LeftBracket) = true
takes_left _ = false

-- what may follow a list
abbrev pub MayFollow : Lexeme → Option Lexeme → Type 0
MayFollow first None = Unit {0}
MayFollow first (Some lexeme) = (GoesOn first lexeme → ⊥) × (IsTrue (takes_left lexeme.kind) → lexeme.col ≤ first.col)

-- what may follow a CASE without OTHER: `[]` only left of the items of the lists that hold the CASE
abbrev pub MayFollowArms : ℕ → Option Lexeme → Type 0
MayFollowArms inner None = Unit {0}
MayFollowArms inner (Some lexeme) = lexeme.kind ≡ LexKind.Sym Op.Always → lexeme.col < inner
