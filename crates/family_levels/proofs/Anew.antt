-- What is found of a module anew is found of it over what its needs are.
use mathlib.Core.Path.{fun_ext}
use Rattle.std.proofs.Common.{◌≡◌, ◌<◌, ℕ, Bool, true, false, List, ◌⊎◌, inl, inr, Option, Some, None, refl, sym, ap, subst, ◌∙◌}
use Rattle.std.specs.Prelude.{◌↔◌, Contains, IfSome, IsTrue}
use Rattle.std.specs.Arc.{arc_value}
use Rattle.tla_tree.specs.declared.unit.ModuleTree.{ModuleTree}
use Rattle.tla_model.specs.declared.ids.DeclId.{DeclId}
use Rattle.module_model.specs.declared.face.Face.{Face}
use Rattle.module_model.specs.declared.imported.Import.{Import}
use Rattle.module_model.specs.declared.imported.Import.TheVariants as import
use Rattle.module_model.specs.Exports.{Exports, ModuleView, face_instances, face_outside}
use Rattle.module_model.specs.Given.{ComesFrom, Text, Reached, face_of}
use Rattle.module_model.specs.Imports.{Imports, import_of}
use Rattle.module_facts.specs.Checks as names
use Rattle.module_facts.specs.Checks.{given_by, given_in}
use Rattle.kind_text.specs.FlatModule.{IsOrdered}
use Rattle.leveled_modules.specs.Leveled.{LevelTables}
use Rattle.family_facts.specs.Facts.{texts_of}
use Rattle.family_facts.specs.Family as families
use Rattle.family_facts.specs.Family.{IsCyclic, Member}
use Rattle.family_facts.proofs.Lists.{among-or-not}
use Rattle.family_tables.specs.Agreement.{AreFrom, accepted_face}
use Rattle.family_tables.proofs.Bridging.{cyclic-map}
use Rattle.family_tables.specs.Modules.{Entry}
use Rattle.family_tables.specs.Outcomes.{ImportsOnly, IsMember, IsNeedTold, Matches, status_by}
use Rattle.family_tables.specs.Plans as plans
use Rattle.family_tables.specs.Plans.{IsPlan}
use Rattle.family_tables.specs.Tables.{entry_of}
use Rattle.family_tables.specs.declared.order.Plan.{Plan}
use Rattle.family_tables.specs.declared.outcome.Outcome.{Outcome}
use Rattle.family_tables.specs.declared.outcome.Outcome.TheVariants as outcome
use Rattle.family_tables.specs.declared.reading.Reading.TheVariants as reading
use Rattle.leveled_facts.specs.Families.{leveled}
use Rattle.leveled_facts.specs.Modules.{Accepted, Cyclic, Leveled, Refused, Status, Unknown, import_status}
use Rattle.family_levels.specs.declared.«module».Found.{Found}
use Rattle.family_levels.specs.Judging.{HasFace, IsJudged}
use Rattle.family_levels.specs.Leveling.{AreNumbers, IsNext, IsReady, face_count}
use Rattle.family_levels.specs.Numbers.{number_by}
use Rattle.family_levels.specs.Versions.{AreNeedsTold, IsAcceptedOver, IsFoundOver, IsHeld, IsHeldFace, IsLack, IsNeedAccepted, IsNeedLacking, Over, Own, Shared, given_over, number_in, numbers_over, shown_by, status_told}
use Rattle.family_levels.specs.Laws.{FamilyLaws, KnownLaws}
use Rattle.family_levels.specs.Again.{IsFoundNext}
use Rattle.family_levels.proofs.Judging.{made-found, names-made, next-found}
use Rattle.family_levels.proofs.Over.{over-found, over-viewed}
use Rattle.family_levels.proofs.Statuses.{given as given_to, lack-is, status_with, told-exactly}
use Rattle.family_levels.proofs.Steps.{files-below, judged-agrees, judged-grows, judged-number, judged-numbered, tree-some}

same-face : (a b : Face) → ◌≡◌ {A = Option Face} (Some a) (Some b) → a ≡ b
same-face a b same = cc

-- what two answers are to one question
same-answer : (P : Type 0) (one other : Bool) → IsTrue one ↔ P → IsTrue other ↔ P → one ≡ other
same-answer P true true first second = refl
same-answer P true false first second = let never : false ≡ true = second.1 (first.0 refl) in cc
same-answer P false true first second = let never : false ≡ true = first.1 (second.0 refl) in cc
same-answer P false false first second = refl

-- an import that is not accepted has no number
lacking-number : (i : Option Import) (number : Option ℕ) (lack : Status) → IsLack lack → given_by i ≡ import_status lack → number_by i number ≡ None
lacking-number None number lack lacks is = refl
lacking-number (Some import.Unknown) number lack lacks is = refl
lacking-number (Some import.Cyclic) number lack lacks is = refl
lacking-number (Some import.Refused) number lack lacks is = refl
lacking-number (Some (import.Module face)) number Unknown lacks is = absurd (cc is)
lacking-number (Some (import.Module face)) number Cyclic lacks is = absurd (cc is)
lacking-number (Some (import.Module face)) number Refused lacks is = absurd (cc is)
lacking-number (Some (import.Module face)) number (Accepted outside) lacks is = absurd lacks

-- and no face
lacking-face : (i : Option Import) (face : Face) (lack : Status) → IsLack lack → given_by i ≡ import_status lack → face_of i ≡ Some face → ⊥
lacking-face None face lack lacks is there = cc there
lacking-face (Some import.Unknown) face lack lacks is there = cc there
lacking-face (Some import.Cyclic) face lack lacks is there = cc there
lacking-face (Some import.Refused) face lack lacks is there = cc there
lacking-face (Some (import.Module own)) face Unknown lacks is there = cc is
lacking-face (Some (import.Module own)) face Cyclic lacks is there = cc is
lacking-face (Some (import.Module own)) face Refused lacks is there = cc is
lacking-face (Some (import.Module own)) face (Accepted outside) lacks is there = absurd lacks

-- an import that is accepted has its number
module-number : (i : Option Import) (number : Option ℕ) (view : ModuleView) → given_by i ≡ names.Accepted view → number_by i number ≡ number
module-number None number view is = absurd (cc is)
module-number (Some import.Unknown) number view is = absurd (cc is)
module-number (Some import.Cyclic) number view is = absurd (cc is)
module-number (Some import.Refused) number view is = absurd (cc is)
module-number (Some (import.Module face)) number view is = refl

module _ (known_laws : KnownLaws) (laws : FamilyLaws) (family : List Member) (plan : Plan) (outcomes : List (List ℕ × Outcome)) (numbers : List (List ℕ × ℕ)) (old new : LevelTables) (name : List ℕ) (ready : IsReady family plan outcomes numbers old name) (unfound : entry_of outcomes name ≡ None)
    (numbered : AreNumbers old numbers) (was_ordered : IsOrdered old.tables.state.flat) (is_ordered : IsOrdered new.tables.state.flat) (tree : ModuleTree) (needs : List (List ℕ)) (member : IsMember family name (reading.Tree tree) needs) (imports : Imports)
    (told : (need : List ℕ) → Contains needs need → IsNeedTold ready.entries outcomes name need (given_in imports need)) (only : ImportsOnly needs imports) (from : AreFrom outcomes imports) (files : List ℕ → Option ℕ) (are : (other : List ℕ) → files other ≡ number_by (import_of imports other) (entry_of numbers other)) (found : Found)
    (judged : IsJudged name tree imports files old new found) (over : Over) (needed : AreNeedsTold family outcomes numbers name needs over) where
  -- a module that is needed is imported as accepted
  need-accepted : (need : List ℕ) → Contains needs need → (n : IsNeedAccepted family outcomes numbers name need over) → given_in imports need ≡ names.Accepted (face_outside n.told.shown.face)
  need-accepted need c n = (told need c).is ∙ by (told need c).is_cyclic refl (entry_of outcomes need) n.face
    where
      by : (answer : Bool) → answer ≡ (told need c).is_cyclic → (o : Option Outcome) → accepted_face o ≡ Some n.told.shown.face → status_by answer o ≡ names.Accepted (face_outside n.told.shown.face)
      by true e o is = absurd (n.apart (cyclic-map (plans.Needs ready.entries) (families.Needs family) name need ready.own ((told need c).exactly.0 (sym e))))
      by false e None is = absurd (cc is)
      by false e (Some (outcome.Refused faults)) is = absurd (cc is)
      by false e (Some (outcome.Accepted face)) is = ap (λ (f : Face). names.Accepted (face_outside f)) (same-face (arc_value face) n.told.shown.face is)

  -- one that is not accepted is imported so
  need-lacking : (need : List ℕ) → Contains needs need → IsNeedLacking family outcomes name need over → given_in imports need ≡ import_status (over.lacks need)
  need-lacking need c n =
      (told need c).is
      ∙ (ap (λ b. status_by b (entry_of outcomes need)) (same-answer (IsCyclic family name need) (told need c).is_cyclic n.cyclic (told-exactly family plan outcomes numbers old name ready tree needs member imports told only need c) n.exactly) ∙ sym n.status)

  given-same : given_to family plan outcomes numbers old name ready tree needs member imports told only ≡ given_over over
  given-same = fun_ext (λ other. by other (among-or-not needs other))
    where
      by : (other : List ℕ) → Contains needs other ⊎ (Contains needs other → ⊥) → status_with (leveled (texts_of family) other).outside (given_in imports other) ≡ given_over over other
      by other (inl c) = by_need (needed.each other c)
        where
          by_need : IsNeedAccepted family outcomes numbers name other over ⊎ IsNeedLacking family outcomes name other over → status_with (leveled (texts_of family) other).outside (given_in imports other) ≡ given_over over other
          by_need (inl n) = ap (status_with (leveled (texts_of family) other).outside) (need-accepted other c n) ∙ (ap Accepted n.outside ∙ ap (status_told (over.lacks other)) (sym n.is))
          by_need (inr n) =
              sym (lack-is (leveled (texts_of family) other).outside (over.lacks other) (over.are_lacks other) (given_in imports other) (sym (need-lacking other c n)))
              ∙ ap (status_told (over.lacks other)) (sym n.is)
      by other (inr never) =
          ap (λ i. status_with (leveled (texts_of family) other).outside (given_by i)) (only other never)
          ∙ sym (ap (status_told (over.lacks other)) (needed.others other never) ∙ needed.unknown other never)

  numbers-same : files ≡ numbers_over over
  numbers-same = fun_ext (λ other. are other ∙ by other (among-or-not needs other))
    where
      by : (other : List ℕ) → Contains needs other ⊎ (Contains needs other → ⊥) → number_by (import_of imports other) (entry_of numbers other) ≡ numbers_over over other
      by other (inl c) = by_need (needed.each other c)
        where
          by_need : IsNeedAccepted family outcomes numbers name other over ⊎ IsNeedLacking family outcomes name other over → number_by (import_of imports other) (entry_of numbers other) ≡ numbers_over over other
          by_need (inl n) = module-number (import_of imports other) (entry_of numbers other) (face_outside n.told.shown.face) (need-accepted other c n) ∙ (n.number ∙ ap number_in (sym n.is))
          by_need (inr n) = lacking-number (import_of imports other) (entry_of numbers other) (over.lacks other) (over.are_lacks other) (need-lacking other c n) ∙ ap number_in (sym n.is)
      by other (inr never) = ap (λ i. number_by i (entry_of numbers other)) (only other never) ∙ ap number_in (sym (needed.others other never))

  -- its face is over theirs
  held-from : (decl : DeclId) (entries : Exports) → ComesFrom imports name decl entries → IsHeld over name decl entries
  held-from decl entries (Text own) = Own own
  held-from decl entries (Reached other face there has) = by (among-or-not needs other)
    where
      by : Contains needs other ⊎ (Contains needs other → ⊥) → IsHeld over name decl entries
      by (inl c) = by_need (needed.each other c)
        where
          by_need : IsNeedAccepted family outcomes numbers name other over ⊎ IsNeedLacking family outcomes name other over → IsHeld over name decl entries
          by_need (inl n) =
              let same : face ≡ n.told.shown.face = same-face face n.told.shown.face (sym (from other face there) ∙ n.face) in
              Shared other n.told n.is (ap (λ (f : Face). face_instances f decl) (sym same) ∙ has)
          by_need (inr n) = absurd (lacking-face (import_of imports other) face (over.lacks other) (over.are_lacks other) (need-lacking other c n) there)
      by (inr never) = let none : None ≡ Some face = sym (ap face_of (only other never)) ∙ there in cc

  held-face : IsHeldFace over name judged.checked.face
  held-face = record { named = judged.face.named; whole = judged.face.whole; from = λ decl entries there. held-from decl entries (judged.face.from decl entries there) }

  module _ (next : IsNext family outcomes numbers name new found) where
    shown-as : (o : outcome.the_data) (n : Option ℕ) (number : ℕ) (face : Face) → HasFace face o → n ≡ Some number → shown_by o n ≡ Some (record { face = face; number = number })
    shown-as (outcome.Refused faults) n number face has at = absurd has
    shown-as (outcome.Accepted shared) None number face has at = absurd (cc at)
    shown-as (outcome.Accepted shared) (Some m) number face has at =
        let same : m ≡ number = cc in
        λ i. Some (record { face = has i; number = same i })

    face-by : (o : outcome.the_data) (face : Face) → HasFace face o → accepted_face (Some o) ≡ Some face
    face-by (outcome.Refused faults) face has = absurd has
    face-by (outcome.Accepted shared) face has = ap (λ f. Some f) has

    below-by : (number : ℕ) → found.number ≡ Some number → number < face_count new
    below-by number at = subst (λ n. IfSome n (λ m. m < face_count new)) at (judged-number name tree imports files old new found judged)

    accepted-over : (number : ℕ) → found.number ≡ Some number → IsAcceptedOver new over (shown_by found.outcome found.number) name tree found number
    accepted-over number at =
        let as_made = made-found known_laws laws family plan outcomes numbers old new name ready unfound numbered was_ordered is_ordered tree needs member imports told only files are found judged over given-same numbers-same (files-below old imports numbers files numbered are) number at in
        record {
          there = below-by number at;
          shown = record { face = judged.checked.face; number = number };
          is = shown-as found.outcome found.number number judged.checked.face as_made.has at;
          number_is = refl;
          face_is = face-by found.outcome judged.checked.face as_made.has;
          held = held-face;
          made = as_made.made;
          like = as_made.like;
        }

    -- so it is found over them
    pub anew-found : IsFoundOver new over (shown_by found.outcome found.number) name tree found
    anew-found =
        let is = over-found laws family plan outcomes numbers old name ready tree needs member over needed in
        record {
          read = (member.member.bytes, member.is);
          viewed = over-viewed laws family plan outcomes numbers old name ready tree needs member over needed;
          says = subst (λ (l : Leveled). Matches l.faults l.outside.view found.outcome) is next.says;
          numbered = next.numbered;
          names = next.names ∙ (λ i. record { uses = (is i).uses; decls = (is i).decls });
          made = names-made known_laws laws family plan outcomes numbers old new name ready unfound numbered was_ordered is_ordered tree needs member imports told only files are found judged over given-same numbers-same (files-below old imports numbers files numbered are);
          accepted = accepted-over;
        }

-- ---- of whatever family

module _ (known_laws : KnownLaws) (laws : FamilyLaws) (plan : Plan) (outcomes : List (List ℕ × Outcome)) (numbers : List (List ℕ × ℕ)) (old new : LevelTables) (name : List ℕ) (unfound : entry_of outcomes name ≡ None) (numbered : AreNumbers old numbers) (was_ordered : IsOrdered old.tables.state.flat) (is_ordered : IsOrdered new.tables.state.flat)
    (tree : ModuleTree) (needs : List (List ℕ)) (imports : Imports) (told : (entries : List Entry) → IsPlan entries plan → ((need : List ℕ) → Contains needs need → plans.Needs entries name need) → (need : List ℕ) → Contains needs need → IsNeedTold entries outcomes name need (given_in imports need))
    (only : ImportsOnly needs imports) (from : AreFrom outcomes imports) (files : List ℕ → Option ℕ) (are : (other : List ℕ) → files other ≡ number_by (import_of imports other) (entry_of numbers other)) (found : Found) (judged : IsJudged name tree imports files old new found) where
  told-here : (family : List Member) (ready : IsReady family plan outcomes numbers old name) → IsMember family name (reading.Tree tree) needs → (need : List ℕ) → Contains needs need → IsNeedTold ready.entries outcomes name need (given_in imports need)
  told-here family ready member = told ready.entries ready.planned (λ need there. ready.all name need (member.own need there))

  next-here : (family : List Member) → IsReady family plan outcomes numbers old name → IsMember family name (reading.Tree tree) needs → IsNext family outcomes numbers name new found
  next-here family ready member =
      next-found known_laws laws family plan outcomes numbers old new name ready unfound numbered was_ordered is_ordered tree needs member imports (told-here family ready member) only files are found judged

  so-here : (family : List Member) (over : Over) → IsReady family plan outcomes numbers old name → IsMember family name (reading.Tree tree) needs → AreNeedsTold family outcomes numbers name needs over → IsFoundOver new over (shown_by found.outcome found.number) name tree found
  so-here family over ready member accepted =
      anew-found known_laws laws family plan outcomes numbers old new name ready unfound numbered was_ordered is_ordered tree needs member imports (told-here family ready member) only from files are found judged over accepted (next-here family ready member)

  pub judged-found : IsFoundNext plan outcomes numbers name (reading.Tree tree) needs old new found
  judged-found = record {
    number = judged-number name tree imports files old new found judged;
    numbered = judged-numbered name tree imports files old new found judged;
    agreed = judged-agrees name tree imports files old new found outcomes from judged;
    grows = judged-grows name tree imports files old new found judged;
    next = next-here;
    so = λ family over other ready member same accepted.
        subst (λ t. IsFoundOver new over (shown_by found.outcome found.number) name t found) (tree-some tree other same) (so-here family over ready member accepted);
  }
