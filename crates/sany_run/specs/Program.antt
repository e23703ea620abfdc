-- What the program writes and answers: for the folder that the words ask to check, the report on its module files, unless a limit is
-- passed; for modules that the words ask to make, the counts of their report and of their uses.
use Rattle.std.specs.Prelude.{ℕ, List, [], Bool, true, false, Option, Some, if◌then◌else◌}
use Rattle.tool_io.specs.Folder.{Told}
use Rattle.leveled_facts.specs.Families.{uses_on}
use Rattle.fact_lines.specs.Reports.{reports_on}
use Rattle.fact_lines.specs.declared.line.ModuleReport.{ModuleReport}
use Rattle.family_facts.specs.declared.verdict.File.{File}
use Rattle.sany_run.specs.declared.check.Outcome.{Outcome}
use Rattle.gen_texts.specs.Generated.{generated}
use Rattle.sany_words.specs.Words.{request_of}
use Rattle.sany_words.specs.declared.request.Request.{Request}
use Rattle.sany_files.specs.Files.{files_of, is_over_folder}
use Rattle.sany_report.specs.Report.{counts, report, report_status}

-- a status, and no bytes
abbrev pub silent : ℕ → Outcome
silent status = record { status = status; bytes = [] }

-- The words ask for nothing.
abbrev pub USAGE : Outcome
USAGE = silent 2

-- A limit is passed.
abbrev pub LIMIT : Outcome
LIMIT = silent 7

-- the report is written, and the status is 1 where some module is refused
abbrev pub reported : List ModuleReport → Outcome
reported reports = record { status = report_status reports; bytes = report reports }

-- the outcome for these files, over the built-in modules: with facts, if they are asked for
abbrev pub outcome_of_files : Bool → List File → Outcome
outcome_of_files facts files = reported (reports_on facts files)

-- a folder that passes a limit is not judged
abbrev pub outcome_of_folder : Told → List ℕ → Bool → Outcome
outcome_of_folder t folder facts = if is_over_folder t folder then LIMIT else outcome_of_files facts (files_of t folder)

-- the counts are written, and the status is as with a report
abbrev pub counted : List ModuleReport → ℕ → Outcome
counted reports use_count = record { status = report_status reports; bytes = counts reports use_count }

-- the outcome for so many modules that are made, over the built-in ones
abbrev pub outcome_of_generated : ℕ → Outcome
outcome_of_generated count = counted (reports_on false (generated count)) (uses_on (generated count))

-- the words ask for the server
abbrev pub is_serve : Option Request → Bool
is_serve (Some Request.Serve) = true
is_serve _ = false

-- the outcome for what is asked for, if that is no server
abbrev pub outcome_of_request : Told → Option Request → Outcome
outcome_of_request t (Some (Request.Check folder facts)) = outcome_of_folder t folder facts
outcome_of_request t (Some (Request.Generate count)) = outcome_of_generated count
outcome_of_request t _ = USAGE

-- What the program writes and answers for these words and a folder that tells this, where it is not to serve.
abbrev pub program : List (List ℕ) → Told → Outcome
program words t = outcome_of_request t (request_of words)
