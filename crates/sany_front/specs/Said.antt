-- What is said of a module by its front.
use Rattle.std.specs.Prelude.{ℕ, List, [], ◌∷◌, ◌++◌, false, codes}
use Rattle.tla_model.specs.declared.Diagnostic.{Diagnostic}
use Rattle.front_laws.specs.Fronts.{Front, Tree, Fault}
use Rattle.family_facts.specs.Verdicts as verdicts
use Rattle.family_facts.specs.declared.verdict.File.{File}
use Rattle.family_facts.specs.declared.verdict.Verdict.{Verdict}
use Rattle.family_tables.specs.declared.outcome.Outcome.{Outcome}
use Rattle.fact_lines.specs.Reports.{reports_on}
use Rattle.fact_lines.specs.declared.line.ModuleReport.{ModuleReport}
use Rattle.sany_report.specs.Report.{report}

-- the line on a module whose front has no fault
abbrev pub read : List ℕ → List ℕ
read name = name ++ codes " has no front fault\n"

-- where the front has a fault, all that `check` says of a folder with this file alone
abbrev pub text_of : File → Front → List ℕ
text_of file (Tree found) = read file.name
text_of file (Fault fault) = report (reports_on false (file ∷ []))

-- the status: 1 where the front has a fault
abbrev pub status_of : Front → ℕ
status_of (Tree found) = 0
status_of (Fault fault) = 1

-- ---- the parts of a report

-- what is said by a verdict, without facts
abbrev pub without_facts : Verdict → ModuleReport
without_facts verdict = record { verdict = verdict; facts = [] }

-- a file is refused for this fault
abbrev pub refused : File → Diagnostic → ModuleReport
refused file fault = without_facts (record { name = file.name; text = verdicts.text_of file.bytes; faults = fault ∷ [] })

-- what is found of the module of a name whose front has this fault
abbrev pub found_of : List ℕ → Diagnostic → List (List ℕ × Outcome)
found_of name fault = (name, Outcome.Refused (fault ∷ [])) ∷ []
