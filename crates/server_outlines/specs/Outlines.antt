-- The names that a module declares and defines, by its text alone: one symbol for each, with the names in a nested module inside it.
use Rattle.std.specs.Prelude.{ℕ, List, [], ◌∷◌, ◌++◌, map, Option, Some, None}
use Rattle.tla_symbols.specs.declared.lexeme.Lexeme.{Lexeme}
use Rattle.tla_symbols.specs.declared.lexeme.Span.{Span}
use Rattle.tla_tree.specs.declared.form.Form.TheVariants as Form
use Rattle.tla_tree.specs.Syntax.{Tree as Parsed, Trees, Nil, Cons, form, span}
use Rattle.tla_model.specs.Entities.{placed}
use Rattle.tla_model.specs.Lexemes.{spelled}
use Rattle.unit_grammar.specs.Units.{UnitTree, Variables, Constants, OperatorDefinition, FunctionDefinition, ModuleDefinition, Assumption, Theorem, ModuleBegin, ModuleEnd}
use Rattle.front_laws.specs.Fronts.{Front, Tree, Fault}
use Rattle.lsp_wire.specs.declared.types.Symbol.{Symbol, roll-Symbol}
use Rattle.server_notes.specs.Areas.{area_at}

-- ---- kinds of symbols, by LSP's numbers

-- `Module`: module definitions and nested modules
abbrev pub module_kind : ℕ
module_kind = 2

-- `Function`: operators and functions with a name
abbrev pub function_kind : ℕ
function_kind = 12

-- `Variable`
abbrev pub variable_kind : ℕ
variable_kind = 13

-- `Constant`
abbrev pub constant_kind : ℕ
constant_kind = 14

-- `Operator`: operators written with a symbol
abbrev pub operator_kind : ℕ
operator_kind = 25

-- ---- one name

-- from the start of one span to the end of another
abbrev pub joined : Span → Span → Span
joined first last = record { start = first.start; end = last.end }

-- from the word LOCAL on, where it stands before
abbrev pub from_local : Option Lexeme → Span → Span
from_local None s = s
from_local (Some word) s = joined word.span s

-- a name of this kind, over this span of the text
abbrev pub symbol : List ℕ → ℕ → Span → Lexeme → Symbol
symbol text kind over name = roll-Symbol (record { name = spelled text name; kind = kind; area = area_at text over; name_area = area_at text name.span; children = None })

-- a nested module over this span, with the names in it
abbrev pub nested_symbol : List ℕ → Span → Lexeme → List Symbol → Symbol
nested_symbol text over name inside = roll-Symbol (record { name = spelled text name; kind = module_kind; area = area_at text over; name_area = area_at text name.span; children = Some inside })

-- ---- units

-- a declared constant, with its places
abbrev pub constant_symbols : List ℕ → Parsed → List Symbol
constant_symbols text x = map (symbol text constant_kind (span x)) (map (λ name. name.0) (placed (form x)))

-- several of them
abbrev pub constants_symbols : List ℕ → Trees → List Symbol
constants_symbols text Nil = []
constants_symbols text (Cons x rest) = constant_symbols text x ++ constants_symbols text rest

-- what a form defines: the kind of the symbol, and the name
abbrev pub defined_as : Form.the_data → Option (ℕ × Lexeme)
defined_as (Form.OperatorDefinition l) = Some (function_kind, l)
defined_as (Form.PrefixDefinition l) = Some (operator_kind, l)
defined_as (Form.InfixDefinition l) = Some (operator_kind, l)
defined_as (Form.PostfixDefinition l) = Some (operator_kind, l)
defined_as (Form.FunctionDefinition l) = Some (function_kind, l)
defined_as (Form.ModuleDefinition l) = Some (module_kind, l)
defined_as _ = None

-- what is defined over this span
abbrev pub symbols_if : List ℕ → Span → Option (ℕ × Lexeme) → List Symbol
symbols_if text over None = []
symbols_if text over (Some d) = symbol text d.0 over d.1 ∷ []

-- a definition, by its form
abbrev pub defined_symbols : List ℕ → Option Lexeme → Parsed → List Symbol
defined_symbols text local x = symbols_if text (from_local local (span x)) (defined_as (form x))

-- an assumption or a theorem over this span behind its word, where it has a name
abbrev pub claimed_symbols : List ℕ → Lexeme → Option Lexeme → Span → List Symbol
claimed_symbols text word None over = []
claimed_symbols text word (Some name) over = symbol text function_kind (joined word.span over) name ∷ []

-- the names that a unit declares or defines; a begin or an end of a nested module has none of its own
abbrev pub unit_symbols : List ℕ → UnitTree → List Symbol
unit_symbols text (Variables names) = map (λ name. symbol text variable_kind name.span name) names
unit_symbols text (Constants declarations) = constants_symbols text declarations
unit_symbols text (OperatorDefinition local x) = defined_symbols text local x
unit_symbols text (FunctionDefinition local x) = defined_symbols text local x
unit_symbols text (ModuleDefinition local x) = defined_symbols text local x
unit_symbols text (Assumption word name x) = claimed_symbols text word name (span x)
unit_symbols text (Theorem word name x) = claimed_symbols text word name (span x)
unit_symbols text _ = []

-- ---- nested modules

-- the names of a module as far as its units are read from the end, and the run of `=` that closes it
pub record Level : Type 0 where
  pub closing : Option Lexeme
  pub symbols : List Symbol

-- nothing of a module is read
abbrev pub closed_by : Option Lexeme → Level
closed_by closing = record { closing = closing; symbols = [] }

-- from the module's dashes to the run that closes it
abbrev pub module_span : Lexeme → Option Lexeme → Span
module_span dashes None = dashes.span
module_span dashes (Some closing) = joined dashes.span closing.span

-- more names before those of the innermost module
abbrev pub with_symbols : List Symbol → List Level → List Level
with_symbols more [] = []
with_symbols more (level ∷ round) = record { closing = level.closing; symbols = more ++ level.symbols } ∷ round

-- the innermost module begins here: it is one name of the module round it
abbrev pub begun : List ℕ → Lexeme → Lexeme → List Level → List Level
begun text dashes name [] = []
begun text dashes name (level ∷ round) = with_symbols (nested_symbol text (module_span dashes level.closing) name level.symbols ∷ []) round

-- one unit before those that are read
abbrev pub before_unit : List ℕ → UnitTree → List Level → List Level
before_unit text (ModuleEnd closing) levels = closed_by (Some closing) ∷ levels
before_unit text (ModuleBegin dashes name extends) levels = begun text dashes name levels
before_unit text unit levels = with_symbols (unit_symbols text unit) levels

-- the names of these units, and of the modules round the first of them: the innermost first
abbrev pub levels_of : List ℕ → List UnitTree → List Level
levels_of text [] = closed_by None ∷ []
levels_of text (unit ∷ units) = before_unit text unit (levels_of text units)

-- the names of the module round all units
abbrev pub outermost : List Level → List Symbol
outermost [] = []
outermost (level ∷ round) = level.symbols

-- ---- of a text

-- the names of a front; one with a fault has none
abbrev pub symbols_by : List ℕ → Front → List Symbol
symbols_by text (Tree found) = outermost (levels_of text found.units)
symbols_by text (Fault fault) = []
