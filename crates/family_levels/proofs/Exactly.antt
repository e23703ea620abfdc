-- What is found of a module, with a face that holds exactly what its exports reach.
use Rattle.std.proofs.Common.{◌≡◌, ◌<◌, ℕ, Bool, true, false, List, [], ◌∷◌, ◌++◌, ◌⊎◌, inl, inr, Option, Some, None, refl, sym, ap, subst, ◌∙◌, cond}
use Rattle.std.specs.Prelude.{Contains, IfSome}
use Rattle.std.specs.Arc.{arc_value}
use Rattle.std.specs.Str.{bytes_eq}
use Rattle.tla_tree.specs.declared.unit.ModuleTree.{ModuleTree}
use Rattle.tla_model.specs.declared.Diagnostic.{Diagnostic}
use Rattle.tla_model.specs.declared.ids.DeclId.{DeclId}
use Rattle.module_model.specs.declared.face.Face.{Face}
use Rattle.module_model.specs.Exports.{Exports, ModuleView, face_instances, instantiable}
use Rattle.module_model.specs.Given.{IsWhole, face_of}
use Rattle.module_model.specs.Imports.{Imports}
use Rattle.exact_faces.specs.Exact.{IsBehindOf, IsExact, IsExactOf}
use Rattle.exact_faces.specs.Importing.{AreExactImports, AreNames}
use Rattle.leveled_modules.specs.Leveled.{LevelTables}
use Rattle.alike_modules.specs.Known.{IsKnownFile}
use Rattle.family_facts.specs.Facts.{texts_of}
use Rattle.family_facts.specs.Family.{Member}
use Rattle.family_facts.proofs.Lists.{among-or-not}
use Rattle.family_tables.specs.Agreement.{AreFrom, IsAgreed, IsAgreedFace, IsTaken, Own, Shared, accepted_face, found_face}
use Rattle.family_tables.specs.Outcomes.{ImportsOnly, Matches}
use Rattle.family_tables.specs.Tables.{entry_of}
use Rattle.family_tables.specs.declared.order.Plan.{Plan}
use Rattle.family_tables.specs.declared.outcome.Outcome.{Outcome}
use Rattle.family_tables.specs.declared.outcome.Outcome.TheVariants as outcome
use Rattle.family_tables.specs.declared.reading.Reading.{Reading}
use Rattle.family_tables.proofs.Tabling.{entry-append}
use Rattle.leveled_facts.specs.Families.{declares, leveled}
use Rattle.family_levels.specs.declared.«module».Found.{Found}
use Rattle.family_levels.specs.Exactness.{AreExact, IsExactOutcome, IsExactly, IsExactlyAs}
use Rattle.family_levels.specs.Leveling.{HasNumber, IsNext, face_count}
use Rattle.family_levels.specs.Versions as versions
use Rattle.family_levels.specs.Versions.{AreNeedsTold, IsAcceptedOver, IsFoundOver, IsHeld, IsHeldFace, IsNeedAccepted, IsNeedLacking, Over, Shown, Told, leveled_over, shown_by}
use Rattle.family_levels.specs.Again.{IsFoundNext}

face-some : (a b : Face) → ◌≡◌ {A = Option Face} (Some a) (Some b) → a ≡ b
face-some a b e = cc

told-some : (a b : Told) → ◌≡◌ {A = Option Told} (Some a) (Some b) → a ≡ b
told-some a b e = cc

-- ---- outcomes

exact-outcome : (o e : outcome.the_data) → IsExactlyAs o e → IsExactOutcome e
exact-outcome (outcome.Refused faults) e is face has = let never : None ≡ Some face = sym (ap (λ z. accepted_face (Some z)) is) ∙ has in absurd (cc never)
exact-outcome (outcome.Accepted was) (outcome.Refused faults) is face has = absurd is
exact-outcome (outcome.Accepted was) (outcome.Accepted made) is face has = subst IsExact (face-some (arc_value made) face has) is.exact

-- what is found so has an exact face
pub found-exact : (found exact : Found) → IsExactly found exact → IsExactOutcome exact.outcome
found-exact found exact is = exact-outcome found.outcome exact.outcome is.outcome

numbered-as : (o e : outcome.the_data) (number : Option ℕ) → IsExactlyAs o e → HasNumber o number → HasNumber e number
numbered-as (outcome.Refused faults) e number is has = subst (λ z. HasNumber z number) (sym is) has
numbered-as (outcome.Accepted was) (outcome.Refused faults) number is has = absurd is
numbered-as (outcome.Accepted was) (outcome.Accepted made) number is has = has

matches-as : (faults : List Diagnostic) (view : ModuleView) (o e : outcome.the_data) → IsExactlyAs o e → Matches faults view o → Matches faults view e
matches-as faults view (outcome.Refused these) e is has = subst (Matches faults view) (sym is) has
matches-as faults view (outcome.Accepted was) (outcome.Refused these) is has = absurd is
matches-as faults view (outcome.Accepted was) (outcome.Accepted made) is has = (has.0, is.outside ∙ has.1)

-- one that is said behind an instance of an exact face is said there
behind-same : (face other : Face) (decl : DeclId) (entries : Exports) (b : IsBehindOf (face_instances face decl) entries) → IsExact other → face_instances other decl ≡ Some b.exported → face_instances other decl ≡ Some entries
behind-same face other decl entries b exact has = has ∙ ap (λ (es : Exports). Some es) (sym (b.is ∙ exact.behind decl b.exported has))

module _ (outcomes : List (List ℕ × Outcome)) (exact : AreExact outcomes) where
  taken-as : (face : Face) (title : List ℕ) (decl : DeclId) (entries : Exports) (b : IsBehindOf (face_instances face decl) entries) → IsTaken outcomes title decl b.exported → IsTaken outcomes title decl entries
  taken-as face title decl entries b (Own own) = Own own
  taken-as face title decl entries b (Shared name other there has) = Shared name other there (behind-same face other decl entries b (exact name other there) has)

  agreed-as : (name : List ℕ) (o e : outcome.the_data) → IsExactlyAs o e → IsAgreed outcomes name o → IsAgreed outcomes name e
  agreed-as name (outcome.Refused faults) e is has = subst (IsAgreed outcomes name) (sym is) tt
  agreed-as name (outcome.Accepted was) (outcome.Refused faults) is has = absurd is
  agreed-as name (outcome.Accepted was) (outcome.Accepted made) is has = record {
    named = is.named ∙ has.named;
    whole = is.whole;
    from = λ decl entries there.
        let b = is.from decl entries there in
        taken-as (arc_value was) name decl entries b (has.from decl b.exported b.stands);
  }

  -- one more module, whose face is exact
  pub exact-more : (name : List ℕ) (o : Outcome) (more : List (List ℕ × Outcome)) → entry_of outcomes name ≡ None → more ≡ outcomes ++ (name, o) ∷ [] → IsExactOutcome o → AreExact more
  exact-more name o more fresh grown is other face has = by (bytes_eq other name) refl (sym (ap accepted_face (ap (λ z. entry_of z other) grown ∙ entry-append outcomes other name o fresh)) ∙ has)
    where
      by : (b : Bool) → bytes_eq other name ≡ b → accepted_face (cond b (Some o) (entry_of outcomes other)) ≡ Some face → IsExact face
      by true same has = is face has
      by false apart has = exact other face has

-- a module with faults has no face
pub refused-exact : (o : outcome.the_data) (faults : List Diagnostic) → o ≡ outcome.Refused faults → IsExactOutcome o
refused-exact o faults is face has = let never : None ≡ Some face = sym (ap (λ z. accepted_face (Some z)) is) ∙ has in absurd (cc never)

-- ---- imports

-- imports have exact faces if all that was found has
pub imports-exact : (outcomes : List (List ℕ × Outcome)) (imports : Imports) → AreExact outcomes → AreFrom outcomes imports → AreExactImports imports
imports-exact outcomes imports exact from name face at = exact name face (from name face at)

-- the imports that are accepted are among the needs if nothing else is imported
pub imports-named : (needs : List (List ℕ)) (imports : Imports) → ImportsOnly needs imports → AreNames needs imports
imports-named needs imports only name face at = by (among-or-not needs name)
  where
    by : Contains needs name ⊎ (Contains needs name → ⊥) → Contains needs name
    by (inl c) = c
    by (inr never) = let none : None ≡ Some face = sym (ap face_of (only name never)) ∙ at in absurd (cc none)

-- ---- over what is needed

module _ (family : List Member) (outcomes : List (List ℕ × Outcome)) (exact : AreExact outcomes) (numbers : List (List ℕ × ℕ)) (name : List ℕ) (needs : List (List ℕ)) (over : Over) (needed : AreNeedsTold family outcomes numbers name needs over) where
  told-exact : (other : List ℕ) (told : Told) → over.told other ≡ Some told → IsExact told.shown.face
  told-exact other told at = by (among-or-not needs other)
    where
      by_need : IsNeedAccepted family outcomes numbers name other over ⊎ IsNeedLacking family outcomes name other over → IsExact told.shown.face
      by_need (inl n) = exact other told.shown.face (n.face ∙ ap (λ (t : Told). Some t.shown.face) (told-some n.told told (sym n.is ∙ at)))
      by_need (inr n) = let never : None ≡ Some told = sym n.is ∙ at in absurd (cc never)

      by : Contains needs other ⊎ (Contains needs other → ⊥) → IsExact told.shown.face
      by (inl c) = by_need (needed.each other c)
      by (inr never) = let none : None ≡ Some told = sym (needed.others other never) ∙ at in absurd (cc none)

  held-from : (face : Face) (title : List ℕ) (decl : DeclId) (entries : Exports) (b : IsBehindOf (face_instances face decl) entries) → IsHeld over title decl b.exported → IsHeld over title decl entries
  held-from face title decl entries b (versions.Own own) = versions.Own own
  held-from face title decl entries b (versions.Shared other told there has) = versions.Shared other told there (behind-same face told.shown.face decl entries b (told-exact other told there) has)

  held-as : (title : List ℕ) (face made : Face) → IsExactOf face made → IsHeldFace over title face → IsHeldFace over title made
  held-as title face made is held = record {
    named = is.named ∙ held.named;
    whole = is.whole;
    from = λ decl entries there.
        let b = is.from decl entries there in
        held-from face title decl entries b (held.from decl b.exported b.stands);
  }

  accepted-as : (known : LevelTables) (tree : ModuleTree) (found made : Found) (number : ℕ) → made.number ≡ Some number → (o e : outcome.the_data) → found.outcome ≡ o → made.outcome ≡ e → IsExactlyAs o e → IsAcceptedOver known over (shown_by found.outcome found.number) name tree found number → IsAcceptedOver known over (shown_by made.outcome made.number) name tree made number
  accepted-as known tree found made number at (outcome.Refused faults) e first second is a = let never : None ≡ Some a.shown.face = sym (ap (λ z. accepted_face (Some z)) first) ∙ a.face_is in absurd (cc never)
  accepted-as known tree found made number at (outcome.Accepted was) (outcome.Refused faults) first second is a = absurd is
  accepted-as known tree found made number at (outcome.Accepted was) (outcome.Accepted face) first second is a =
      let same : arc_value was ≡ a.shown.face = face-some (arc_value was) a.shown.face (sym (ap (λ z. accepted_face (Some z)) first) ∙ a.face_is) in
      record {
        there = a.there;
        shown = record { face = arc_value face; number = number };
        is = λ i. shown_by (second i) (at i);
        number_is = refl;
        face_is = ap (λ z. accepted_face (Some z)) second;
        held = held-as name (arc_value was) (arc_value face) is (subst (IsHeldFace over name) (sym same) a.held);
        made = a.made;
        like = a.like;
      }

  over-as : (known : LevelTables) (tree : ModuleTree) (found made : Found) → IsExactly found made → IsFoundOver known over (shown_by found.outcome found.number) name tree found → IsFoundOver known over (shown_by made.outcome made.number) name tree made
  over-as known tree found made is so = record {
    read = so.read;
    viewed = so.viewed;
    says = matches-as (leveled_over over tree).faults (leveled_over over tree).outside.view found.outcome made.outcome is.outcome so.says;
    numbered = subst (HasNumber made.outcome) (sym is.number) (numbered-as found.outcome made.outcome found.number is.outcome so.numbered);
    names = is.names ∙ so.names;
    made = so.made;
    accepted = λ number at. accepted-as known tree found made number at found.outcome made.outcome refl refl is.outcome (so.accepted number (sym is.number ∙ at));
  }

-- ---- the next module

module _ (found made : Found) (is : IsExactly found made) where
  next-as : (family : List Member) (outcomes : List (List ℕ × Outcome)) (numbers : List (List ℕ × ℕ)) (name : List ℕ) (known : LevelTables) → IsNext family outcomes numbers name known found → IsNext family outcomes numbers name known made
  next-as family outcomes numbers name known so = record {
    there = so.there;
    says = matches-as (leveled (texts_of family) name).faults (leveled (texts_of family) name).outside.view found.outcome made.outcome is.outcome so.says;
    numbered = subst (HasNumber made.outcome) (sym is.number) (numbered-as found.outcome made.outcome found.number is.outcome so.numbered);
    names = is.names ∙ so.names;
    knowledge = so.knowledge;
    plain = so.plain;
    others = so.others;
    itself = λ number at. so.itself number (sym is.number ∙ at);
    foreign = λ title number later apart at. so.foreign title number later apart (sym is.number ∙ at);
  }

  pub next-exact : (plan : Plan) (outcomes : List (List ℕ × Outcome)) → AreExact outcomes → (numbers : List (List ℕ × ℕ)) (name : List ℕ) (read : Reading) (needs : List (List ℕ)) (known new : LevelTables) → IsFoundNext plan outcomes numbers name read needs known new found → IsFoundNext plan outcomes numbers name read needs known new made
  next-exact plan outcomes exact numbers name read needs known new so = record {
    number = subst (λ n. IfSome n (λ number. number < face_count new)) (sym is.number) so.number;
    numbered = subst (HasNumber made.outcome) (sym is.number) (numbered-as found.outcome made.outcome found.number is.outcome so.numbered);
    agreed = agreed-as outcomes exact name found.outcome made.outcome is.outcome so.agreed;
    grows = so.grows;
    next = λ family ready member. next-as family outcomes numbers name new (so.next family ready member);
    so = λ family over tree ready member reads told. over-as family outcomes exact numbers name needs over told new tree found made is (so.so family over tree ready member reads told);
  }
