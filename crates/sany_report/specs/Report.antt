-- The report on some modules.
use Rattle.std.specs.Prelude.{ℕ, ◌+◌, List, [], ◌∷◌, ◌++◌, Bool, true, false, ◌==◌, if◌then◌else◌, codes, length, count_by, slice_range}
use Rattle.std.specs.Fmt.{decimal}
use Rattle.tla_text.specs.Places.{place_at}
use Rattle.tla_text.specs.declared.Place.{Place}
use Rattle.tla_text.specs.declared.Measure.TheVariants.{Characters}
use Rattle.tla_symbols.specs.declared.lexeme.Span.{Span}
use Rattle.tla_model.specs.declared.Diagnostic.{Diagnostic}
use Rattle.tla_model.specs.declared.entity.Level.{Level}
use Rattle.fact_lines.specs.declared.line.FactLine.{FactLine}
use Rattle.fact_lines.specs.declared.line.ModuleReport.{ModuleReport}

-- a place as it is shown, from 1, before some text
abbrev pub shown_place : Place → List ℕ → List ℕ
shown_place place more = decimal (place.line + 1) ++ (codes ":" ++ (decimal (place.column + 1) ++ more))

-- the line on a fault between two places
abbrev pub line_between : Place → Place → ℕ → List ℕ
line_between start end code =
    codes "  " ++ shown_place start (codes "-" ++ shown_place end (codes " E" ++ (decimal code ++ codes "\n")))

-- the line on a fault
abbrev pub fault_line : List ℕ → Diagnostic → List ℕ
fault_line text fault =
    line_between (place_at Characters text fault.span.start) (place_at Characters text fault.span.end) fault.code

-- the lines on all faults of a text
abbrev pub fault_lines : List ℕ → List Diagnostic → List ℕ
fault_lines text [] = []
fault_lines text (fault ∷ faults) = fault_line text fault ++ fault_lines text faults

-- ---- uses

-- the word of a level
abbrev pub level_word : Level → List ℕ
level_word Level.Constant = codes "constant"
level_word Level.State = codes "state"
level_word Level.Action = codes "action"
level_word Level.Temporal = codes "temporal"
level_word Level.Instance = codes "instance"

-- a name as it is written in a text
abbrev pub written : List ℕ → Span → List ℕ
written text span = slice_range text span.start span.end

-- the line on a use: its place, the name, the module that declares it, the place of the declaring name there, and the word of the level
abbrev pub use_line : Place → List ℕ → List ℕ → Place → List ℕ → List ℕ
use_line place name file declared word =
    codes "  " ++ shown_place place (codes " " ++ (name ++ (codes " -> " ++ (file ++ (codes " " ++ shown_place declared (codes " " ++ (word ++ codes "\n")))))))

-- the line on a fact
abbrev pub fact_line : List ℕ → FactLine → List ℕ
fact_line text fact =
    use_line (place_at Characters text fact.name.start) (written text fact.name) fact.«module» fact.declared (level_word fact.level)

-- the lines on all facts of a text
abbrev pub fact_lines : List ℕ → List FactLine → List ℕ
fact_lines text [] = []
fact_lines text (fact ∷ facts) = fact_line text fact ++ fact_lines text facts

-- ---- modules

-- the lines on an accepted module: it, and below it each fact
abbrev pub acceptance : List ℕ → List ℕ → List FactLine → List ℕ
acceptance name text facts = name ++ (codes " accepted\n" ++ fact_lines text facts)

-- the lines on a refused module: it, and below it each fault
abbrev pub refusal : List ℕ → List ℕ → List Diagnostic → List ℕ
refusal name text faults = name ++ (codes " refused\n" ++ fault_lines text faults)

-- the lines on a module with these faults and facts
abbrev pub module_lines : List ℕ → List ℕ → List Diagnostic → List FactLine → List ℕ
module_lines name text [] facts = acceptance name text facts
module_lines name text (fault ∷ faults) facts = refusal name text (fault ∷ faults)

-- the lines on all modules, in their order
abbrev pub lines_of : List ModuleReport → List ℕ
lines_of [] = []
lines_of (r ∷ rs) = module_lines r.verdict.name r.verdict.text r.verdict.faults r.facts ++ lines_of rs

-- there is some fault
abbrev pub has_faults : List Diagnostic → Bool
has_faults [] = false
has_faults (fault ∷ faults) = true

-- a module with faults is refused
abbrev pub is_refused : ModuleReport → Bool
is_refused r = has_faults r.verdict.faults

-- how many modules are refused
abbrev pub refused_count : List ModuleReport → ℕ
refused_count reports = count_by is_refused reports

-- the last line
abbrev pub summary : ℕ → ℕ → List ℕ
summary count refused = codes "modules=" ++ (decimal count ++ (codes " refused=" ++ (decimal refused ++ codes "\n")))

-- the line on how many uses there are
abbrev pub count_line : ℕ → List ℕ
count_line count = codes "uses=" ++ (decimal count ++ codes "\n")

-- the last line of the report on modules, and how many uses they have
abbrev pub counts : List ModuleReport → ℕ → List ℕ
counts reports use_count = summary (length reports) (refused_count reports) ++ count_line use_count

-- the report on modules, in order of their names
abbrev pub report : List ModuleReport → List ℕ
report reports = lines_of reports ++ summary (length reports) (refused_count reports)

-- the status of a run that reports on modules
abbrev pub report_status : List ModuleReport → ℕ
report_status reports = if refused_count reports == 0 then 0 else 1
