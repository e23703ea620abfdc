-- The lexemes behind the first `==`.
use Rattle.std.specs.Prelude.{ℕ, ◌+◌, List, [], ◌∷◌, Bool, true, false, Option, Some, None, if◌then◌else◌}
use Rattle.tla_symbols.specs.declared.lexeme.LexKind.{LexKind}
use Rattle.tla_symbols.specs.declared.lexeme.LexKind.TheVariants.{Mark}
use Rattle.tla_symbols.specs.declared.lexeme.Mark.TheVariants.{Define}
use Rattle.tla_symbols.specs.declared.lexeme.Lexeme.{Lexeme}

-- `==`, behind which the body of a definition begins
abbrev pub defines : LexKind → Bool
defines (Mark Define) = true
defines _ = false

-- where they begin, in lexemes the first of which has this number
abbrev pub body_at : ℕ → List Lexeme → Option ℕ
body_at at [] = None
body_at at (t ∷ rest) = if defines t.kind then Some (at + 1) else body_at (at + 1) rest
