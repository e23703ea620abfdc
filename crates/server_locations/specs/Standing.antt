-- Names that stand in the text of their module.
use Rattle.std.specs.Prelude.{ℕ, ◌<◌, ◌^◌, List, length}
use Rattle.std.specs.List.{All}
use Rattle.std.specs.Str.{IsUtf8}
use Rattle.tla_symbols.specs.declared.lexeme.Span.{Span}
use Rattle.tla_lexeme.specs.Spans.{IsPlaced}
use Rattle.server_locations.specs.Locations.{Found}

-- a span of bytes that are UTF-8: both its ends stand at characters
pub record Stands (bytes : List ℕ) (span : Span) : Type 0 where
  pub utf8 : IsUtf8 bytes
  pub placed : IsPlaced bytes span

-- the uses and the declaring names of a module stand in its text, which is no longer than a text can be
pub record HasNamesPlaced (m : Found) : Type 0 where
  pub short : length m.bytes < 2 ^ 31
  pub uses : All (λ u. Stands m.bytes u.name) m.uses
  pub decls : All (λ d. Stands m.bytes d.name) m.decls
