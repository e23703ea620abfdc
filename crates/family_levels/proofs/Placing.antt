-- Where what is said of the files of a family stands.
use Rattle.std.proofs.Common.{ℕ, Bool, true, false, List, [], ◌∷◌, map}
use Rattle.std.specs.Prelude.{Contains, if◌then◌else◌}
use Rattle.std.specs.List.{All}
use Rattle.std.proofs.lemmas.List.Elements.{All-map}
use Rattle.tla_model.specs.declared.Diagnostic.{Diagnostic}
use Rattle.tla_model.specs.declared.entity.Use.{Use}
use Rattle.span_laws.specs.NodeSpans.{SpansText}
use Rattle.module_facts.specs.Checks.{unless_any}
use Rattle.fact_values.specs.Names.{Texts}
use Rattle.family_facts.specs.Facts.{texts_of}
use Rattle.family_facts.specs.Verdicts.{family_of, text_of}
use Rattle.family_facts.specs.declared.verdict.File.{File}
use Rattle.family_tables.proofs.Read.{all-by}
use Rattle.leveled_facts.specs.Families.{leveled}
use Rattle.fact_lines.specs.Lines.{fact_line}
use Rattle.fact_lines.specs.Reports.{IsReportPlaced, report_on, reports_on}
use Rattle.fact_lines.specs.declared.line.FactLine.{FactLine}
use Rattle.family_levels.specs.Telling.{Stands}
use Rattle.family_levels.proofs.InTexts.{all-none}

all-unless : (P : Use → Type 0) (faults : List Diagnostic) (uses : List Use) → All P uses → All P (unless_any faults uses)
all-unless P [] uses all = all
all-unless P (fault ∷ faults) uses all = all-none P

module _ (texts : Texts) where
  lines-stand : (facts : Bool) (text : List ℕ) (uses : List Use) → All (λ (u : Use). SpansText text u.name) uses → All (λ (line : FactLine). SpansText text line.name) (if facts then map (fact_line texts) uses else [])
  lines-stand true text uses all = All-map (λ (line : FactLine). SpansText text line.name) (fact_line texts) uses all
  lines-stand false text uses all = all-none (λ (line : FactLine). SpansText text line.name)

  report-placed : (facts : Bool) (file : File) → Stands file.bytes (leveled texts file.name) → IsReportPlaced (report_on facts texts file)
  report-placed facts file stands = record {
    verdict = stands.faults;
    facts = lines-stand facts (text_of file.bytes) (unless_any (leveled texts file.name).faults (leveled texts file.name).uses) (all-unless (λ (u : Use). SpansText (text_of file.bytes) u.name) (leveled texts file.name).faults (leveled texts file.name).uses stands.spans);
  }

-- what is said of files stands in their texts
pub reports-placed : (facts : Bool) (files : List File) → ((file : File) → Contains files file → Stands file.bytes (leveled (texts_of (family_of files)) file.name)) → All IsReportPlaced (reports_on facts files)
reports-placed facts files stands =
    All-map IsReportPlaced (report_on facts (texts_of (family_of files))) files
    (all-by (λ (file : File). IsReportPlaced (report_on facts (texts_of (family_of files)) file)) files (λ file there. report-placed (texts_of (family_of files)) facts file (stands file there)))
