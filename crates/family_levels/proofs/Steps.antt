-- What is found of one module.
use Rattle.std.proofs.Common.{◌≡◌, ◌<◌, ℕ, List, [], ◌∷◌, Option, Some, None, refl, sym, ap, subst, ◌∙◌, arith, is_some}
use Rattle.std.specs.Prelude.{Contains, IfSome}
use Rattle.std.specs.Arc.{arc_value}
use Rattle.tla_model.specs.declared.Diagnostic.{Diagnostic}
use Rattle.tla_tree.specs.declared.unit.ModuleTree.{ModuleTree}
use Rattle.unit_grammar.specs.UnitNodes.{module_of}
use Rattle.unit_grammar.specs.Units.{ModuleUnits}
use Rattle.front_laws.specs.Fronts.{Fault, IsFront}
use Rattle.module_model.specs.declared.face.Face.{Face}
use Rattle.module_model.specs.Exports.{face_outside, files_of}
use Rattle.module_model.specs.Given.{IsFaceOver}
use Rattle.module_model.specs.declared.imported.Import.TheVariants as import
use Rattle.module_model.specs.Imports.{Imports, import_of}
use Rattle.module_model.specs.Resolution.{outside_in}
use Rattle.module_facts.specs.Checks.{CheckedModule, facts_of, facts_told, given_in}
use Rattle.module_facts.proofs.Checked.{facts-checked}
use Rattle.tree_kinds.specs.Standing.{Outside}
use Rattle.module_kinds.specs.ModuleKinds.{nowhere}
use Rattle.leveled_modules.specs.Leveled.{ModuleLevels}
use Rattle.leveled_modules.specs.Leveled.{LevelTables}
use Rattle.leveled_modules.specs.Leveled.{IsModuleLeveled, faces_by}
use Rattle.family_facts.specs.Facts.{texts_of}
use Rattle.family_facts.specs.Family.{AreMembersDistinct, Member}
use Rattle.family_facts.proofs.Members.{member-there}
use Rattle.family_tables.specs.Agreement.{AreFrom, IsAgreed, accepted_face}
use Rattle.family_tables.specs.Outcomes.{IsMember}
use Rattle.family_tables.specs.Tables.{entry_of}
use Rattle.family_tables.specs.declared.order.Plan.{Plan}
use Rattle.family_tables.specs.declared.outcome.Outcome.{Outcome}
use Rattle.family_tables.specs.declared.outcome.Outcome.TheVariants as outcome
use Rattle.family_tables.specs.declared.reading.Reading.TheVariants as reading
use Rattle.family_tables.proofs.Agreeing.{agreed-over}
use Rattle.leveled_facts.specs.Families.{leveled}
use Rattle.leveled_facts.specs.Modules.{Leveled, front_refused}
use Rattle.family_levels.specs.declared.«module».Found.{Found}
use Rattle.family_levels.specs.Judging.{HasFace, HasFaults, IsFoundFrom, IsJudged, IsJudgedFrom, IsLeveledOver}
use Rattle.family_levels.specs.Leveling.{AreNumbers, HasNumber, IsNext, IsReady, KeepsFaces, face_count}
use Rattle.family_levels.specs.Versions.{Grows}
use Rattle.family_levels.specs.Numbers.{number_by}
use Rattle.family_levels.specs.Again.{IsFoundNext}
use Rattle.family_levels.proofs.Judging.{refused-number, refused-says}
use Rattle.family_levels.proofs.Lasting.{grows-none}
use Rattle.family_levels.proofs.Statuses.{files-given}

-- the face of a module that was checked is what it is to others, where nothing is at fault
pub face-outside : (imports : Imports) (source : List ℕ) (units : ModuleUnits) (checked : CheckedModule) → facts_told checked ≡ facts_of (given_in imports) source units → checked.faults ≡ [] → face_outside checked.face ≡ outside_in (files_of imports) source units
face-outside imports source units checked facts none = (facts-checked (given_in imports) source units checked facts).outside none ∙ ap (λ f. outside_in f source units) (sym (files-given imports))

-- numbers of files are those of faces
pub files-below : (known : LevelTables) (imports : Imports) (numbers : List (List ℕ × ℕ)) (files : List ℕ → Option ℕ) → AreNumbers known numbers → ((name : List ℕ) → files name ≡ number_by (import_of imports name) (entry_of numbers name)) → (name : List ℕ) → IfSome (files name) (λ number. number < face_count known)
files-below known imports numbers files below are name = by (files name) refl
  where
    some-number : (import : Option import.the_data) (number : Option ℕ) (at : ℕ) → number_by import number ≡ Some at → number ≡ Some at
    some-number None number at is = absurd (cc is)
    some-number (Some (import.Module face)) number at is = is
    some-number (Some import.Unknown) number at is = absurd (cc is)
    some-number (Some import.Cyclic) number at is = absurd (cc is)
    some-number (Some import.Refused) number at is = absurd (cc is)

    by : (found : Option ℕ) → files name ≡ found → IfSome found (λ number. number < face_count known)
    by None is = tt
    by (Some at) is = below name at (some-number (import_of imports name) (entry_of numbers name) at (sym (are name) ∙ is))

-- ---- behind a module

module _ (name : List ℕ) (tree : ModuleTree) (imports : Imports) (files : List ℕ → Option ℕ) (old new : LevelTables) (found : Found) where
  -- files of which no more is known than is asked
  outs : List ℕ → Outside
  outs other = record nowhere { view = files_of imports other; is_constant = (faces_by old files other).is_constant }

  leveled-some : (levels : ModuleLevels) → IsLeveledOver tree imports files old new levels → IsModuleLeveled (faces_by old files) outs tree.source (module_of tree) old new levels
  unfolding outs
  leveled-some levels over = over.over outs (record { names = refl; constant = λ other. refl })

  keeps-from : (checked : CheckedModule) (faults : List Diagnostic) → IsJudgedFrom tree imports files old new checked faults found → KeepsFaces old new
  keeps-from checked [] so =
      let made = leveled-some so.0 so.1 in
      let more : face_count old < face_count new = made.more_faces in
      record { count = omega (arith, more); faces = made.faces }
  keeps-from checked (fault ∷ faults) so = subst (λ (t : LevelTables). KeepsFaces old t) (sym so.1) (grows-none old).faces

  grows-from : (checked : CheckedModule) (faults : List Diagnostic) → IsJudgedFrom tree imports files old new checked faults found → Grows old new
  grows-from checked [] so = record { nodes = (leveled-some so.0 so.1).extends; faces = keeps-from checked [] so }
  grows-from checked (fault ∷ faults) so = subst (λ (t : LevelTables). Grows old t) (sym so.1) (grows-none old)

  -- earlier nodes and faces stay
  pub judged-grows : IsJudged name tree imports files old new found → Grows old new
  judged-grows judged = grows-from judged.checked judged.checked.faults judged.so

  numbered-refused : (Are : List Diagnostic → Type 0) (o : outcome.the_data) → HasFaults Are o → found.number ≡ None → HasNumber o found.number
  numbered-refused Are (outcome.Refused all) has none = none
  numbered-refused Are (outcome.Accepted face) has none = absurd has

  numbered-accepted : (face : Face) (o : outcome.the_data) (number : ℕ) → HasFace face o → found.number ≡ Some number → HasNumber o found.number
  numbered-accepted face (outcome.Refused all) number has at = absurd has
  numbered-accepted face (outcome.Accepted shared) number has at = ap is_some at

  numbered-by : (levels : ModuleLevels) (checked : CheckedModule) (faults : List Diagnostic) → IsFoundFrom checked levels faults found → HasNumber found.outcome found.number
  numbered-by levels checked [] accepts = numbered-accepted checked.face found.outcome levels.face accepts.outcome accepts.number
  numbered-by levels checked (fault ∷ faults) refused = numbered-refused _ found.outcome refused.outcome refused.number

  numbered-from : (checked : CheckedModule) (faults : List Diagnostic) → IsJudgedFrom tree imports files old new checked faults found → HasNumber found.outcome found.number
  numbered-from checked [] so = numbered-by so.0 checked so.0.faults so.2
  numbered-from checked (fault ∷ faults) so = numbered-refused _ found.outcome so.0.outcome so.0.number

  -- an accepted module has a number, and another one has none
  pub judged-numbered : IsJudged name tree imports files old new found → HasNumber found.outcome found.number
  judged-numbered judged = numbered-from judged.checked judged.checked.faults judged.so

  number-from : (levels : ModuleLevels) (checked : CheckedModule) (faults : List Diagnostic) → levels.face < face_count new → IsFoundFrom checked levels faults found → IfSome found.number (λ number. number < face_count new)
  number-from levels checked [] below accepts = subst (λ n. IfSome n (λ number. number < face_count new)) (sym accepts.number) below
  number-from levels checked (fault ∷ faults) below refused = subst (λ n. IfSome n (λ number. number < face_count new)) (sym refused.number) tt

  number-of : (checked : CheckedModule) (faults : List Diagnostic) → IsJudgedFrom tree imports files old new checked faults found → IfSome found.number (λ number. number < face_count new)
  number-of checked [] so = number-from so.0 checked so.0.faults (leveled-some so.0 so.1).there so.2
  number-of checked (fault ∷ faults) so = subst (λ n. IfSome n (λ number. number < face_count new)) (sym so.0.number) tt

  -- an accepted module has the number of a face
  pub judged-number : IsJudged name tree imports files old new found → IfSome found.number (λ number. number < face_count new)
  judged-number judged = number-of judged.checked judged.checked.faults judged.so

  module _ (outcomes : List (List ℕ × Outcome)) (from : AreFrom outcomes imports) where
    refused-agrees : (Are : List Diagnostic → Type 0) (o : outcome.the_data) → HasFaults Are o → IsAgreed outcomes name o
    refused-agrees Are (outcome.Refused all) has = tt
    refused-agrees Are (outcome.Accepted face) has = absurd has

    accepted-agrees : (face : Face) (o : outcome.the_data) → IsFaceOver imports name face → HasFace face o → IsAgreed outcomes name o
    accepted-agrees face (outcome.Refused all) over has = absurd has
    accepted-agrees face (outcome.Accepted shared) over has = agreed-over outcomes imports name (arc_value shared) from (subst (IsFaceOver imports name) (sym has) over)

    agrees-by : (levels : ModuleLevels) (checked : CheckedModule) (faults : List Diagnostic) → IsFaceOver imports name checked.face → IsFoundFrom checked levels faults found → IsAgreed outcomes name found.outcome
    agrees-by levels checked [] over accepts = accepted-agrees checked.face found.outcome over accepts.outcome
    agrees-by levels checked (fault ∷ faults) over refused = refused-agrees _ found.outcome refused.outcome

    agrees-from : (checked : CheckedModule) (faults : List Diagnostic) → IsFaceOver imports name checked.face → IsJudgedFrom tree imports files old new checked faults found → IsAgreed outcomes name found.outcome
    agrees-from checked [] over so = agrees-by so.0 checked so.0.faults over so.2
    agrees-from checked (fault ∷ faults) over so = refused-agrees _ found.outcome so.0.outcome

    -- its face goes with those before it
    pub judged-agrees : IsJudged name tree imports files old new found → IsAgreed outcomes name found.outcome
    judged-agrees judged = agrees-from judged.checked judged.checked.faults judged.face judged.so

-- ---- the face of a module that was checked

module _ (name : List ℕ) (tree : ModuleTree) (imports : Imports) (files : List ℕ → Option ℕ) (old new : LevelTables) (found : Found) where
  abbrev IsOver : outcome.the_data → Type 0
  IsOver o = (face : Face) → accepted_face (Some o) ≡ Some face → IsFaceOver imports name face

  refused-over : (Are : List Diagnostic → Type 0) (o : outcome.the_data) → HasFaults Are o → IsOver o
  refused-over Are (outcome.Refused all) has face is = absurd (cc is)
  refused-over Are (outcome.Accepted shared) has face is = absurd has

  accepted-over : (checked : Face) (o : outcome.the_data) → IsFaceOver imports name checked → HasFace checked o → IsOver o
  accepted-over checked (outcome.Refused all) over has face is = absurd has
  accepted-over checked (outcome.Accepted shared) over has face is = subst (IsFaceOver imports name) (sym has ∙ some-same (arc_value shared) face is) over
    where
      some-same : (a b : Face) → ◌≡◌ {A = Option Face} (Some a) (Some b) → a ≡ b
      some-same a b e = cc

  over-by : (levels : ModuleLevels) (checked : CheckedModule) (faults : List Diagnostic) → IsFaceOver imports name checked.face → IsFoundFrom checked levels faults found → IsOver found.outcome
  over-by levels checked [] over accepts = accepted-over checked.face found.outcome over accepts.outcome
  over-by levels checked (fault ∷ faults) over refused = refused-over _ found.outcome refused.outcome

  over-from : (checked : CheckedModule) (faults : List Diagnostic) → IsFaceOver imports name checked.face → IsJudgedFrom tree imports files old new checked faults found → IsOver found.outcome
  over-from checked [] over so = over-by so.0 checked so.0.faults over so.2
  over-from checked (fault ∷ faults) over so = refused-over _ found.outcome so.0.outcome

  pub judged-over : IsJudged name tree imports files old new found → IsOver found.outcome
  judged-over judged = over-from judged.checked judged.checked.faults judged.face judged.so

-- ---- front faults

-- what is found of a module with a front fault
pub fault-next : (front : (family : List Member) (member : Member) (fault : Diagnostic) → AreMembersDistinct family → Contains family member → IsFront member.name member.bytes (Fault fault) → leveled (texts_of family) member.name ≡ front_refused fault)
    → (family : List Member) (plan : Plan) (outcomes : List (List ℕ × Outcome)) (numbers : List (List ℕ × ℕ)) (known : LevelTables) (name : List ℕ) → IsReady family plan outcomes numbers known name → (fault : Diagnostic) (needs : List (List ℕ)) → IsMember family name (reading.Fault fault) needs
    → (faults : List Diagnostic) → faults ≡ fault ∷ [] → (found : Found) → found.outcome ≡ outcome.Refused faults → found.number ≡ None → found.names.uses ≡ [] → found.names.decls ≡ [] → IsNext family outcomes numbers name known found
fault-next front family plan outcomes numbers known name ready fault needs member faults lone found outcome_is number_is uses_is decls_is =
    let m : Member = member.member in
    let is : leveled (texts_of family) name ≡ front_refused fault =
    subst (λ n. leveled (texts_of family) n ≡ front_refused fault) member.named (front family m fault ready.distinct member.there (subst (λ n. IsFront n m.bytes (Fault fault)) (sym member.named) member.is.0)) in
    let all : (leveled (texts_of family) name).faults ≡ fault ∷ [] = ap (λ (l : Leveled). l.faults) is in
    let has : HasFaults (λ these. these ≡ fault ∷ []) found.outcome = subst (HasFaults (λ these. these ≡ fault ∷ [])) (sym outcome_is) lone in
    record {
      there = member-there family name m member.there member.named;
      says = refused-says (λ these. these ≡ fault ∷ []) found.outcome (leveled (texts_of family) name).faults (leveled (texts_of family) name).outside.view fault [] (λ these e. e ∙ sym all) all has;
      numbered = refused-number (λ these. these ≡ fault ∷ []) found.outcome found.number has number_is;
      names =
          let uses : found.names.uses ≡ (leveled (texts_of family) name).uses = uses_is ∙ ap (λ (l : Leveled). l.uses) (sym is) in
          let decls : found.names.decls ≡ (leveled (texts_of family) name).decls = decls_is ∙ ap (λ (l : Leveled). l.decls) (sym is) in
          λ i. record { uses = uses i; decls = decls i };
      knowledge = ready.leveled_so.knowledge;
      plain = ready.leveled_so.plain;
      others = ready.leveled_so.files;
      itself = λ number at. let never : None ≡ Some number = sym number_is ∙ at in cc;
      foreign = λ title number later apart at. let never : None ≡ Some number = sym number_is ∙ at in cc;
    }

pub tree-some : (one other : ModuleTree) → ◌≡◌ {A = reading.the_data} (reading.Tree one) (reading.Tree other) → one ≡ other
tree-some one other same = cc

-- the same of whatever family
pub fault-found : (front : (family : List Member) (member : Member) (fault : Diagnostic) → AreMembersDistinct family → Contains family member → IsFront member.name member.bytes (Fault fault) → leveled (texts_of family) member.name ≡ front_refused fault)
    → (plan : Plan) (outcomes : List (List ℕ × Outcome)) (numbers : List (List ℕ × ℕ)) (known : LevelTables) (name : List ℕ) (fault : Diagnostic) (needs : List (List ℕ))
    → (faults : List Diagnostic) → faults ≡ fault ∷ [] → (found : Found) → found.outcome ≡ outcome.Refused faults → found.number ≡ None → found.names.uses ≡ [] → found.names.decls ≡ [] → IsFoundNext plan outcomes numbers name (reading.Fault fault) needs known known found
fault-found front plan outcomes numbers known name fault needs faults lone found outcome_is number_is uses_is decls_is = record {
  number = subst (λ n. IfSome n (λ number. number < face_count known)) (sym number_is) tt;
  numbered = subst (λ o. HasNumber o found.number) (sym outcome_is) number_is;
  agreed = subst (IsAgreed outcomes name) (sym outcome_is) tt;
  grows = grows-none known;
  next = λ family ready member. fault-next front family plan outcomes numbers known name ready fault needs member faults lone found outcome_is number_is uses_is decls_is;
  so = λ family over tree ready member reads accepted. absurd (cc reads);
}
