-- A file alone whose front has a fault: what is found of it, and what is said.
use Rattle.std.proofs.Common.{arith, ◌≡◌, ◌<◌, ℕ, List, [], ◌∷◌, Some, false, map, length, ap, refl, subst, ◌∙◌, if◌then◌else◌, None}
use Rattle.std.specs.Prelude.{Contains}
use Rattle.std.specs.List.{AllZip}
use Rattle.std.proofs.lemmas.Option.{slice_get_within}
use Rattle.list_laws.proofs.Texts.{text-itself}
use Rattle.tla_model.specs.declared.Diagnostic.{Diagnostic}
use Rattle.front_laws.specs.Fronts.{IsFront, Fault}
use Rattle.family_facts.specs.Facts.{texts_of}
use Rattle.family_facts.specs.Family.{AreMembersDistinct, Member}
use Rattle.family_facts.specs.Verdicts.{AreDistinct, family_of, member_of, text_of}
use Rattle.family_facts.specs.declared.verdict.File.{File}
use Rattle.family_facts.specs.declared.verdict.Verdict.{Verdict}
use Rattle.family_facts.proofs.Lists.{here}
use Rattle.family_facts.proofs.Members.{file-there}
use Rattle.family_tables.specs.Outcomes.{IsSaid, faults_of}
use Rattle.family_tables.specs.Tables.{entry_of}
use Rattle.family_tables.specs.declared.outcome.Outcome.{Outcome}
use Rattle.leveled_facts.specs.Families.{leveled}
use Rattle.leveled_facts.specs.Modules.{Leveled, front_refused}
use Rattle.fact_lines.specs.Reports.{reports_on}
use Rattle.fact_lines.specs.declared.line.ModuleReport.{ModuleReport}
use Rattle.sany_front.specs.Said.{found_of, refused, without_facts}

-- a file alone has no name of another
alone-distinct : (file : File) → AreDistinct (file ∷ [])
alone-distinct file i j a b at other same =
    let first : i < length (file ∷ []) = slice_get_within (file ∷ []) i a at in
    let second : j < length (file ∷ []) = slice_get_within (file ∷ []) j b other in
    omega (arith, first, second)

-- what is said of it by its faults
pub alone-said : (file : File) (fault : Diagnostic)
    → ((files : List File) → AreDistinct files → AreMembersDistinct (family_of files))
    → ((family : List Member) (member : Member) (f : Diagnostic) → AreMembersDistinct family → Contains family member → IsFront member.name member.bytes (Fault f) → leveled (texts_of family) member.name ≡ front_refused f)
    → IsFront file.name file.bytes (Fault fault)
    → reports_on false (file ∷ []) ≡ refused file fault ∷ []
alone-said file fault apart is front =
    ap (λ (found : Leveled). without_facts (record { name = file.name; text = text_of file.bytes; faults = found.faults }) ∷ [])
    (is (family_of (file ∷ [])) (member_of file) fault (apart (file ∷ []) (alone-distinct file)) (file-there (file ∷ []) file (here file [])) front)

-- what is found under its name
found-itself : (name : List ℕ) (fault : Diagnostic) → entry_of (found_of name fault) name ≡ Some (Outcome.Refused (fault ∷ []))
found-itself name fault = ap (λ b. if b then Some (Outcome.Refused (fault ∷ [])) else None) (text-itself name name refl)

-- verdicts by what is found say the fault
pub verdicts-said : (file : File) (fault : Diagnostic) (verdicts : List Verdict) → AllZip (IsSaid (found_of file.name fault)) (file ∷ []) verdicts → map without_facts verdicts ≡ refused file fault ∷ []
verdicts-said file fault [] said = absurd said
verdicts-said file fault (v ∷ []) said =
    let faults : v.faults ≡ fault ∷ [] = said.0.faults ∙ ap faults_of (found-itself file.name fault) in
    λ i. without_facts (record { name = said.0.name i; text = said.0.text i; faults = faults i }) ∷ []
verdicts-said file fault (v ∷ w ∷ verdicts) said = absurd said.1

-- and so do the reports that are made of them
pub reports-said : (file : File) (fault : Diagnostic) (name : List ℕ) (found : List (List ℕ × Outcome)) (files : List File) (verdicts : List Verdict) (reports : List ModuleReport)
    → name ≡ file.name → found ≡ found_of name fault → files ≡ file ∷ [] → AllZip (IsSaid found) files verdicts → reports ≡ map without_facts verdicts → reports ≡ refused file fault ∷ []
reports-said file fault name found files verdicts reports named is alone said made =
    let by-name = subst (λ n. AllZip (IsSaid (found_of n fault)) files verdicts) named (subst (λ t. AllZip (IsSaid t) files verdicts) is said) in
    made ∙ verdicts-said file fault verdicts (subst (λ fs. AllZip (IsSaid (found_of file.name fault)) fs verdicts) alone by-name)
