-- Where a list of lexemes that nothing derives goes wrong.
use Rattle.std.specs.Prelude.{ℕ, ◌+◌, List, ◌++◌, take, None}
use Rattle.tla_symbols.specs.declared.lexeme.Lexeme.{Lexeme}
use Rattle.tla_tree.specs.Syntax.{Tree}
use Rattle.tla_tree.specs.Derivation.{Derives}

-- a tree derives the whole list, outside all aligned lists
abbrev pub DerivesWhole : Tree → List Lexeme → Type 0
DerivesWhole tree lexemes = Derives tree lexemes 0 None

-- some tree derives the whole list
abbrev pub IsDerivable : List Lexeme → Type 0
IsDerivable lexemes = (tree : Tree) × DerivesWhole tree lexemes

-- some derivable list begins so
abbrev pub Begins : List Lexeme → Type 0
Begins lexemes = (rest : List Lexeme) × IsDerivable (lexemes ++ rest)

-- the first lexeme up to which no derivable list begins with the list
pub record IsFirstBad (lexemes : List Lexeme) (index : ℕ) : Type 0 where
  pub refused : IsDerivable lexemes → ⊥
  pub begins : Begins (take index lexemes)
  pub ends : Begins (take (index + 1) lexemes) → ⊥
