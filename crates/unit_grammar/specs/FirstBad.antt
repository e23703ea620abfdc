-- Where a list of lexemes that is no module goes wrong.
use Rattle.std.specs.Prelude.{◌≡◌, ◌⊎◌, ℕ, ◌+◌, List, [], ◌∷◌, ◌++◌, take}
use Rattle.tla_symbols.specs.declared.lexeme.LexKind.TheVariants as LexKind
use Rattle.tla_symbols.specs.declared.lexeme.Lexeme.{Lexeme}
use Rattle.unit_grammar.specs.Units.{ModuleUnits}
use Rattle.unit_grammar.specs.Derivation.{DerivesModule}

-- some module derives the whole list
abbrev pub IsDerivable : List Lexeme → Type 0
IsDerivable lexemes = (found : ModuleUnits) × DerivesModule found lexemes

-- some derivable list begins so
abbrev pub Begins : List Lexeme → Type 0
Begins lexemes = (rest : List Lexeme) × IsDerivable (lexemes ++ rest)

-- the first lexeme up to which no derivable list begins with the list
pub record IsFirstBad (lexemes : List Lexeme) (index : ℕ) : Type 0 where
  pub refused : IsDerivable lexemes → ⊥
  pub begins : Begins (take index lexemes)
  pub ends : Begins (take (index + 1) lexemes) → ⊥

-- the closing run, the text's end, or a place at which no lexeme begins
abbrev pub IsLast : Lexeme → Type 0
IsLast t = (t.kind ≡ LexKind.Close) ⊎ ((t.kind ≡ LexKind.End) ⊎ (t.kind ≡ LexKind.Bad))

-- one of these ends the list, and none stands before: so do the lexemes of a text end
abbrev pub EndsOnce : List Lexeme → Type 0
EndsOnce [] = ⊥
EndsOnce (t ∷ []) = IsLast t
EndsOnce (t ∷ next ∷ rest) = (IsLast t → ⊥) × EndsOnce (next ∷ rest)
