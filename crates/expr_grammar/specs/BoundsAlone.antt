-- Where a list of lexemes that is no list of bounds goes wrong.
use Rattle.std.specs.Prelude.{◌≡◌, ℕ, ◌+◌, List, ◌++◌, take, Some, None}
use Rattle.tla_symbols.specs.declared.lexeme.Lexeme.{Lexeme}
use Rattle.tla_tree.specs.Syntax.{Trees}
use Rattle.tla_tree.specs.Derivation.{DerivesBounds}
use Rattle.expr_grammar.specs.Machine.{State, run, start_bounds}

-- bounds derive the whole list, outside all aligned lists
abbrev pub IsDerivableAsBounds : List Lexeme → Type 0
IsDerivableAsBounds lexemes = (bounds : Trees) × DerivesBounds bounds lexemes 0 None

-- some derivable list of bounds begins so
abbrev pub BeginsBounds : List Lexeme → Type 0
BeginsBounds lexemes = (rest : List Lexeme) × IsDerivableAsBounds (lexemes ++ rest)

-- the first lexeme up to which no derivable list of bounds begins with the list
pub record IsFirstBadOfBounds (lexemes : List Lexeme) (index : ℕ) : Type 0 where
  pub refused : IsDerivableAsBounds lexemes → ⊥
  pub begins : BeginsBounds (take index lexemes)
  pub ends : BeginsBounds (take (index + 1) lexemes) → ⊥

-- the machine for bounds reads the lexemes before this one, and not this one
pub record RefusesBoundsAt (lexemes : List Lexeme) (index : ℕ) : Type 0 where
  pub state : State
  pub reads : run (Some start_bounds) (take index lexemes) ≡ Some state
  pub refuses : run (Some start_bounds) (take (index + 1) lexemes) ≡ None
