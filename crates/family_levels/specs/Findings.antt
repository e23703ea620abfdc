-- What was found of the modules of a family, by their names.
use Rattle.std.specs.Prelude.{ℕ, List, [], Bool, Option, Some, None, if◌then◌else◌, map}
use Rattle.tla_text.specs.declared.Place.{Place}
use Rattle.tla_model.specs.declared.Diagnostic.{Diagnostic}
use Rattle.tla_model.specs.declared.entity.Decl.{Decl}
use Rattle.tla_model.specs.declared.entity.Use.{Use}
use Rattle.family_facts.specs.declared.verdict.Verdict.{Verdict}
use Rattle.family_tables.specs.Outcomes.{faults_of}
use Rattle.family_tables.specs.Tables.{entry_of}
use Rattle.family_tables.specs.declared.outcome.Outcome.{Outcome}
use Rattle.family_tables.specs.declared.outcome.Outcome.TheVariants as outcome
use Rattle.fact_lines.specs.Rows.{line_by}
use Rattle.fact_lines.specs.declared.line.FactLine.{FactLine}
use Rattle.fact_lines.specs.declared.line.ModuleReport.{ModuleReport}
use Rattle.family_levels.specs.declared.findings.Findings.{Findings}
use Rattle.family_levels.specs.declared.names.Names.{Names}

-- nothing was found
abbrev pub nothing_found : Findings
nothing_found = record { outcomes = []; names = [] }

-- the uses of a module
abbrev pub uses_of : Option Names → List Use
uses_of None = []
uses_of (Some names) = names.uses

-- its declarations
abbrev pub decls_of : Option Names → List Decl
decls_of None = []
decls_of (Some names) = names.decls

-- the faults that were found of a name; of a name that is not there none were
abbrev pub faults_in : Findings → List ℕ → List Diagnostic
faults_in found name = faults_of (entry_of found.outcomes name)

-- the uses in the module of a name
abbrev pub uses_in : Findings → List ℕ → List Use
uses_in found name = uses_of (entry_of found.names name)

-- the names that it declares
abbrev pub decls_in : Findings → List ℕ → List Decl
decls_in found name = decls_of (entry_of found.names name)

-- the uses that are shown of a module: all of one that is accepted, and none of another
abbrev pub shown_by : Option Outcome → List Use → List Use
shown_by (Some (outcome.Accepted face)) uses = uses
shown_by _ uses = []

-- those of the module of a name
abbrev pub shown_in : Findings → List ℕ → List Use
shown_in found name = shown_by (entry_of found.outcomes name) (uses_in found name)

-- ---- reports

-- the facts on the module of a name, if they are asked for, by where declaring names begin
abbrev pub facts_by : Bool → List (List ℕ × List Place) → Findings → List ℕ → List FactLine
facts_by facts places found name = if facts then map (line_by places) (shown_in found name) else []

-- what is said of a file by its verdict
abbrev pub report_by : Bool → List (List ℕ × List Place) → Findings → Verdict → ModuleReport
report_by facts places found verdict = record { verdict = verdict; facts = facts_by facts places found verdict.name }
