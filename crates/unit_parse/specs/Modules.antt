-- What a module in code is, and what is answered where there is none.
pub use Rattle.unit_grammar.specs.UnitNodes.{unit_at, nodes_in, AreUnits, IsModule}
use Rattle.std.specs.Prelude.{◌<◌, List, length}
use Rattle.tla_symbols.specs.declared.lexeme.Lexeme.{Lexeme}
use Rattle.unit_grammar.specs.FirstBad.{IsFirstBad}
use Rattle.unit_parse.specs.declared.parse.ParseError.{ParseError}

-- there is no module, and this lexeme shows it; or there was no room
abbrev pub IsFault : List Lexeme → ParseError → Type 0
IsFault lexemes (ParseError.FirstBad index) = (index < length lexemes) × IsFirstBad lexemes index
IsFault lexemes ParseError.Memory = Unit {0}
