-- The uses of names of a module as they are shown, by the texts of its family.
use Rattle.std.specs.Prelude.{ℕ, List, Option, Some, None, map, slice_get, unwrap_or}
use Rattle.std.specs.FinMap.{get}
use Rattle.tla_text.specs.Places.{place_at, text_start}
use Rattle.tla_text.specs.declared.Place.{Place}
use Rattle.tla_text.specs.declared.Measure.TheVariants.{Characters}
use Rattle.tla_model.specs.declared.entity.Use.{Use}
use Rattle.tla_model.specs.declared.names.Binder.{Binder}
use Rattle.tla_model.specs.Entities.{declaring}
use Rattle.unit_grammar.specs.Units.{ModuleUnits}
use Rattle.front_laws.specs.Fronts.{Front, Tree, Fault}
use Rattle.fact_values.specs.Names.{Texts}
use Rattle.family_facts.specs.Fronts.{front_of}
use Rattle.fact_lines.specs.declared.line.FactLine.{FactLine}

-- where a declaring name begins in a text
abbrev pub name_place : List ℕ → Binder → Place
name_place source binder = place_at Characters source binder.name.span.start

-- where the declaring names of a module begin in its text, in their order
abbrev pub places_of : List ℕ → ModuleUnits → List Place
places_of source units = map (name_place source) (declaring units.units)

-- one of these places; the start of the text where there are not so many
abbrev pub place_among : List Place → ℕ → Place
place_among places place = unwrap_or (slice_get places place) text_start

-- where a declaring name begins, by how many stand before it; a text with a front fault declares none
abbrev pub declared_front : List ℕ → ℕ → Front → Place
declared_front bytes place (Tree found) = place_among (places_of bytes found) place
declared_front bytes place (Fault fault) = text_start

-- the same of the text of a name
abbrev pub declared_text : List ℕ → ℕ → Option (List ℕ) → Place
declared_text name place None = text_start
declared_text name place (Some bytes) = declared_front bytes place (front_of name bytes)

-- the same in these texts
abbrev pub declared_place : Texts → List ℕ → ℕ → Place
declared_place texts name place = declared_text name place (get texts name)

-- a use as it is shown: where it stands, the module that declares it and where it is declared there, and its level
abbrev pub fact_line : Texts → Use → FactLine
fact_line texts u = record { name = u.name; «module» = u.«module»; declared = declared_place texts u.«module» u.place; level = u.level }
