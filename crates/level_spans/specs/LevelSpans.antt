-- Where what is found of levels stands.
use Rattle.tla_symbols.specs.declared.lexeme.Span.{Span}
use Rattle.tree_kinds.specs.TreeLevels.{LevelFinding, Refused, NotConstant, TooHigh, Leveled}

-- the span of a fault, or that of the name of a use, has a property
abbrev pub StandsAt : (Span → Type 0) → LevelFinding → Type 0
StandsAt P (Refused at) = P at
StandsAt P (NotConstant at) = P at
StandsAt P (TooHigh at) = P at
StandsAt P (Leveled l level) = P l.span
