-- Names as they are found from the first unit on: for private clauses.
use Rattle.std.specs.Prelude.{◌≡◌, ℕ, List, [], ◌∷◌, reverse, Bool, true, false, Option, Some, None}
use Rattle.tla_symbols.specs.declared.lexeme.Lexeme.{Lexeme}
use Rattle.lsp_wire.specs.declared.types.Area.{Area}
use Rattle.lsp_wire.specs.declared.types.Symbol.{Symbol, roll-Symbol}
use Rattle.server_notes.specs.Areas.{position_at}
use Rattle.server_outlines.specs.declared.outline.Begun.{Begun}
use Rattle.server_outlines.specs.declared.outline.Outline.{Outline}
use Rattle.server_outlines.specs.Outlines.{Level, module_kind, outermost, with_symbols}

-- from the first dashes of a module to the run that closes it
abbrev pub module_area : List ℕ → Area → Option Lexeme → Area
module_area text dashes None = dashes
module_area text dashes (Some closing) = record { start = dashes.start; end = position_at text closing.span.end }

-- a nested module that was begun, over this area and with these names in it
abbrev pub nested : Begun → Area → List Symbol → Symbol
nested b area inside = roll-Symbol (record { name = b.name; kind = module_kind; area = area; name_area = b.name_area; children = Some inside })

-- it begins before the units that are left: it is one name of the module round it
abbrev pub begun_before : List ℕ → Begun → List Level → List Level
begun_before text b [] = []
begun_before text b (level ∷ round) = with_symbols (nested b (module_area text b.dashes level.closing) level.symbols ∷ []) round

-- all names: these modules are begun, the innermost first, in which these are found, before the units that are left
abbrev pub names_round : List ℕ → List Begun → List Symbol → List Level → List Symbol
names_round text [] found levels = outermost (with_symbols found levels)
names_round text (b ∷ round) found levels = names_round text round b.before (begun_before text b (with_symbols found levels))

-- all names of a module whose units are passed up to those that are left
abbrev pub all_names : List ℕ → Outline → List Level → List Symbol
all_names text outline levels = names_round text (reverse outline.begun.items) outline.symbols levels

-- what is passed stands before whatever is left
abbrev pub Leads : List ℕ → (List Level → List Level) → Outline → Outline → Type 0
Leads text step old new = (levels : List Level) → all_names text new levels ≡ all_names text old (step levels)

-- whatever is left, these are the names
pub record IsEnd (text : List ℕ) (step : List Level → List Level) (old new : Outline) : Type 0 where
  pub closed : new.begun.items ≡ []
  pub names : (levels : List Level) → all_names text old (step levels) ≡ new.symbols

-- what is passed stands before whatever is left, or nothing that is left has a name
abbrev pub IsPast : List ℕ → (List Level → List Level) → Outline → Outline → Bool → Type 0
IsPast text step old new true = Leads text step old new
IsPast text step old new false = IsEnd text step old new

-- no unit is left: a module that no end closes has no names
abbrev pub names_at_end : List Begun → List Symbol → List Symbol
names_at_end [] found = found
names_at_end (b ∷ round) found = []
