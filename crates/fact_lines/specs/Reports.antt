-- What is said of the files of a family, with facts if they are asked for.
use Rattle.std.specs.Prelude.{ℕ, List, [], Bool, if◌then◌else◌, map}
use Rattle.std.specs.List.{All}
use Rattle.span_laws.specs.NodeSpans.{SpansText}
use Rattle.tla_model.specs.declared.entity.Use.{Use}
use Rattle.module_facts.specs.Checks.{unless_any}
use Rattle.fact_values.specs.Names.{Texts}
use Rattle.family_facts.specs.Facts.{texts_of}
use Rattle.family_facts.specs.Verdicts.{IsVerdictPlaced, family_of}
use Rattle.family_facts.specs.declared.verdict.File.{File}
use Rattle.leveled_facts.specs.Families.{leveled, verdict_on}
use Rattle.fact_lines.specs.Lines.{fact_line}
use Rattle.fact_lines.specs.declared.line.FactLine.{FactLine}
use Rattle.fact_lines.specs.declared.line.ModuleReport.{ModuleReport}

-- the uses that are shown of the module of a name: all of one that is accepted, and none of another
abbrev pub shown_uses : Texts → List ℕ → List Use
shown_uses texts name = unless_any (leveled texts name).faults (leveled texts name).uses

-- the facts on it
abbrev pub facts_on : Texts → List ℕ → List FactLine
facts_on texts name = map (fact_line texts) (shown_uses texts name)

-- what is said of a file of these texts
abbrev pub report_on : Bool → Texts → File → ModuleReport
report_on facts texts file = record { verdict = verdict_on texts file; facts = if facts then facts_on texts file.name else [] }

-- what is said of files, over the built-in modules
abbrev pub reports_on : Bool → List File → List ModuleReport
reports_on facts files = map (report_on facts (texts_of (family_of files))) files

-- the faults of a module and its uses stand in its text
pub record IsReportPlaced (report : ModuleReport) : Type 0 where
  pub verdict : IsVerdictPlaced report.verdict
  pub facts : All (λ line. SpansText report.verdict.text line.name) report.facts
