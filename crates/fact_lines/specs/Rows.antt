-- Where the declaring names of modules that were read begin.
use Rattle.std.specs.Prelude.{ℕ, List, [], unwrap_or}
use Rattle.tla_text.specs.declared.Place.{Place}
use Rattle.tla_model.specs.declared.entity.Use.{Use}
use Rattle.unit_grammar.specs.UnitNodes.{module_of}
use Rattle.family_tables.specs.Modules.{Entry}
use Rattle.family_tables.specs.Tables.{entry_of}
use Rattle.family_tables.specs.declared.reading.Reading.{Reading}
use Rattle.fact_lines.specs.Lines.{place_among, places_of}
use Rattle.fact_lines.specs.declared.line.FactLine.{FactLine}

-- where those of what was read begin
abbrev pub places_in : Reading → List Place
places_in (Reading.Tree tree) = places_of tree.source (module_of tree)
places_in (Reading.Fault fault) = []

-- the same under the name of the module
abbrev pub row_of : Entry → List ℕ × List Place
row_of entry = (entry.0, places_in entry.1.reading)

-- where a declaring name of a module begins, by how many stand before it
abbrev pub place_by : List (List ℕ × List Place) → List ℕ → ℕ → Place
place_by rows name place = place_among (unwrap_or (entry_of rows name) []) place

-- a use as it is shown
abbrev pub line_by : List (List ℕ × List Place) → Use → FactLine
line_by rows u = record { name = u.name; «module» = u.«module»; declared = place_by rows u.«module» u.place; level = u.level }
