-- What is answered on the files of a family.
use Rattle.std.proofs.Common.{◌≡◌, ℕ, Bool, true, false, List, [], ◌∷◌, Some, refl, sym, ap, ◌∙◌, ◌+◌, length, map}
use mathlib.Core.Path.{fun_ext}
use Rattle.std.specs.Prelude.{Contains, if◌then◌else◌, sum_by}
use Rattle.std.specs.List.{AllZip}
use Rattle.std.proofs.lemmas.List.Sums.{sum_by-cons}
use Rattle.tla_text.specs.declared.Place.{Place}
use Rattle.tla_model.specs.declared.Diagnostic.{Diagnostic}
use Rattle.tla_model.specs.declared.entity.Use.{Use}
use Rattle.module_model.specs.Exports.{ModuleView}
use Rattle.module_facts.specs.Checks.{unless_any}
use Rattle.fact_values.specs.Names.{Texts}
use Rattle.family_facts.specs.Facts.{texts_of}
use Rattle.family_facts.specs.Family.{is_there}
use Rattle.family_facts.specs.Verdicts.{family_of, member_of}
use Rattle.family_facts.specs.declared.verdict.File.{File}
use Rattle.family_facts.specs.declared.verdict.Verdict.{Verdict}
use Rattle.family_facts.proofs.Lists.{behind, here}
use Rattle.family_facts.proofs.Members.{member-there}
use Rattle.family_facts.proofs.Members.{file-there}
use Rattle.family_tables.specs.Modules.{Entry}
use Rattle.family_tables.specs.Outcomes.{IsSaid, Matches, faults_of}
use Rattle.family_tables.specs.declared.outcome.Outcome.{Outcome}
use Rattle.family_tables.specs.declared.outcome.Outcome.TheVariants as outcome
use Rattle.family_tables.proofs.Read.{says-faults}
use Rattle.leveled_facts.specs.Families.{leveled, use_count_on, uses_on, verdict_on, verdicts_on}
use Rattle.fact_lines.specs.Rows.{line_by, row_of}
use Rattle.fact_lines.specs.Lines.{fact_line}
use Rattle.fact_lines.specs.Reports.{facts_on, report_on, reports_on, shown_uses}
use Rattle.family_levels.specs.Leveling.{AreNames, AreOutcomes}
use Rattle.family_levels.specs.Findings.{facts_by, report_by, shown_by, shown_in, uses_in, uses_of}
use Rattle.family_levels.specs.declared.findings.Findings.{Findings}

module _ (files : List File) where
  abbrev texts : Texts
  texts = texts_of (family_of files)

  there : (f : File) → Contains files f → is_there (family_of files) f.name ≡ true
  there f h = member-there (family_of files) f.name (member_of f) (file-there files f h) refl

  -- ---- verdicts

  module _ (outcomes : List (List ℕ × Outcome)) (are : AreOutcomes (family_of files) outcomes) where
    verdict-is : (f : File) (v : Verdict) → Contains files f → IsSaid outcomes f v → v ≡ verdict_on texts f
    verdict-is f v h said =
        let o = are f.name (there f h) in
        let faults : v.faults ≡ (leveled texts f.name).faults = said.faults ∙ (ap faults_of o.1 ∙ says-faults (leveled texts f.name).faults (leveled texts f.name).outside.view o.0 o.2) in
        λ i. record { name = said.name i; text = said.text i; faults = faults i }

    verdicts-are : (fs : List File) (verdicts : List Verdict) → ((f : File) → Contains fs f → Contains files f) → AllZip (IsSaid outcomes) fs verdicts → verdicts ≡ map (verdict_on texts) fs
    verdicts-are [] [] of said = refl
    verdicts-are [] (v ∷ verdicts) of said = absurd said
    verdicts-are (f ∷ fs) [] of said = absurd said
    verdicts-are (f ∷ fs) (v ∷ verdicts) of said =
        let first = verdict-is f v (of f (here f fs)) said.0 in
        let rest = verdicts-are fs verdicts (λ x at. of x (behind f fs x at)) said.1 in
        λ i. first i ∷ rest i

    -- the verdicts are those of the function
    pub verdicts-answer : (verdicts : List Verdict) → AllZip (IsSaid outcomes) files verdicts → verdicts ≡ verdicts_on files
    verdicts-answer verdicts said = verdicts-are files verdicts (λ f at. at) said

  -- ---- uses

  -- the uses that an outcome shows
  shown-said : (faults : List Diagnostic) (view : ModuleView) (o : outcome.the_data) (uses : List Use) → Matches faults view o → shown_by (Some o) uses ≡ unless_any faults uses
  shown-said [] view (outcome.Refused all) uses says = absurd (says.1 refl)
  shown-said (fault ∷ rest) view (outcome.Refused all) uses says = refl
  shown-said faults view (outcome.Accepted face) uses says = ap (λ fs. unless_any fs uses) (sym says.0)

  module _ (found : Findings) (outcomes : AreOutcomes (family_of files) found.outcomes) (named : AreNames (family_of files) found.names) where
    uses-are : (f : File) → Contains files f → shown_in found f.name ≡ shown_uses texts f.name
    uses-are f h =
        let o = outcomes f.name (there f h) in
        ap (λ x. shown_by x (uses_in found f.name)) o.1
        ∙ (ap (λ n. shown_by (Some o.0) (uses_of n)) (named f.name (there f h)) ∙ shown-said (leveled texts f.name).faults (leveled texts f.name).outside.view o.0 (leveled texts f.name).uses o.2)

    counts-are : (fs : List File) → ((f : File) → Contains fs f → Contains files f) → sum_by (λ (f : File). length (shown_in found f.name)) fs ≡ sum_by (use_count_on texts) fs
    counts-are [] of = refl
    counts-are (f ∷ fs) of =
        let first = ap length (uses-are f (of f (here f fs))) in
        let rest = counts-are fs (λ x at. of x (behind f fs x at)) in
        sum_by-cons (λ (x : File). length (shown_in found x.name)) f fs ∙ ((λ i. first i + rest i) ∙ sym (sum_by-cons (use_count_on texts) f fs))

    -- so many uses are shown of all files
    pub count-answer : sum_by (λ (f : File). length (shown_in found f.name)) files ≡ uses_on files
    count-answer = counts-are files (λ f at. at)

    module _ (modules : List Entry) (declared : (u : Use) → line_by (map row_of modules) u ≡ fact_line texts u) where
      facts-are : (facts : Bool) (places : List (List ℕ × List Place)) → places ≡ (if facts then map row_of modules else []) → (f : File) → Contains files f → facts_by facts places found f.name ≡ (if facts then facts_on texts f.name else [])
      facts-are false places is f h = refl
      facts-are true places is f h = ap (λ rows. map (line_by rows) (shown_in found f.name)) is ∙ (ap (λ line. map line (shown_in found f.name)) (fun_ext declared) ∙ ap (map (fact_line texts)) (uses-are f h))

      reports-are : (facts : Bool) (places : List (List ℕ × List Place)) → places ≡ (if facts then map row_of modules else []) → (fs : List File) → ((f : File) → Contains fs f → Contains files f) → map (report_by facts places found) (map (verdict_on texts) fs) ≡ map (report_on facts texts) fs
      reports-are facts places is [] of = refl
      reports-are facts places is (f ∷ fs) of =
          let first = facts-are facts places is f (of f (here f fs)) in
          let rest = reports-are facts places is fs (λ x at. of x (behind f fs x at)) in
          λ i. record { verdict = verdict_on texts f; facts = first i } ∷ rest i

      -- what is said of the files by their verdicts is what the function says
      pub reports-answer : (facts : Bool) (places : List (List ℕ × List Place)) → places ≡ (if facts then map row_of modules else []) → (verdicts : List Verdict) → verdicts ≡ verdicts_on files → map (report_by facts places found) verdicts ≡ reports_on facts files
      reports-answer facts places is verdicts same = ap (map (report_by facts places found)) same ∙ reports-are facts places is files (λ f at. at)
