-- Faults of a text by their codes and their areas.
use Rattle.std.specs.Prelude.{ℕ, List, map}
use Rattle.tla_symbols.specs.declared.lexeme.Span.{Span}
use Rattle.tla_text.specs.declared.Place.{Place}
use Rattle.tla_text.specs.declared.Measure.TheVariants.{Utf16}
use Rattle.tla_text.specs.Places.{place_at}
use Rattle.tla_model.specs.declared.Diagnostic.{Diagnostic}
use Rattle.lsp_wire.specs.declared.types.Position.{Position}
use Rattle.lsp_wire.specs.declared.types.Area.{Area}
use Rattle.lsp_wire.specs.declared.types.Note.{Note}

-- a place as LSP counts: its line, and the units of UTF-16 before it there
abbrev pub as_position : Place → Position
as_position place = record { line = place.line; unit = place.column }

-- the position of an offset in a text
abbrev pub position_at : List ℕ → ℕ → Position
position_at text offset = as_position (place_at Utf16 text offset)

-- the area of a span of a text
abbrev pub area_at : List ℕ → Span → Area
area_at text span = record { start = position_at text span.start; end = position_at text span.end }

-- a fault of a text, by its code and its area
abbrev pub note_of : List ℕ → Diagnostic → Note
note_of text fault = record { code = fault.code; area = area_at text fault.span }

-- the notes on faults of a text, in their order
abbrev pub notes_on : List ℕ → List Diagnostic → List Note
notes_on text faults = map (note_of text) faults
