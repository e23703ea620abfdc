-- Spans that lie in a text.
use Rattle.std.specs.Prelude.{ℕ, List}
use Rattle.std.specs.Str.{IsCharBoundary}
use Rattle.tla_symbols.specs.declared.lexeme.Span.{Span}

-- both ends of a span stand at characters of a text
pub record IsPlaced (text : List ℕ) (span : Span) : Type 0 where
  pub start : IsCharBoundary text span.start
  pub end : IsCharBoundary text span.end
