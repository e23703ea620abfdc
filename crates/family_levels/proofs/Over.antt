-- What was found of a module over others is found of it again, where these are what they were.
use Rattle.std.proofs.Common.{◌≡◌, ℕ, true, false, List, [], ◌⊎◌, inl, inr, Option, Some, None, refl, sym, ap, subst, ◌∙◌, is_some}
use Rattle.std.specs.Prelude.{Contains}
use Rattle.std.specs.Arc.{arc_value}
use Rattle.std.specs.Str.{bytes_eq}
use Rattle.tla_tree.specs.declared.unit.ModuleTree.{ModuleTree}
use Rattle.tla_model.specs.declared.ids.DeclId.{DeclId}
use Rattle.tla_model.specs.Entities.{Meaning}
use Rattle.unit_grammar.specs.UnitNodes.{module_of}
use Rattle.unit_grammar.specs.Units.{ModuleUnits}
use Rattle.front_laws.specs.Fronts.{IsFront, Tree}
use Rattle.module_model.specs.declared.face.Face.{Face}
use Rattle.module_model.specs.Bindings.{faults}
use Rattle.module_model.specs.Exports.{Exports, face_outside}
use Rattle.module_model.specs.Modules.{text_of}
use Rattle.arity_rules.specs.Arities.{arity_faults}
use Rattle.kind_text.specs.FlatModule.{FlatModule, IsOrdered}
use Rattle.tree_kinds.specs.Standing.{Outside}
use Rattle.module_kinds.specs.ModuleKinds.{outside as module_outside}
use Rattle.flat_trees.specs.Instances.{symbols_of}
use Rattle.flat_kinds.specs.Declarations.{HasPlaces}
use Rattle.flattened_trees.specs.Leads.{FlatFace}
use Rattle.flattened_trees.specs.Questions.{Question}
use Rattle.flattened_units.specs.Units.{IsModuleMade, Reader}
use Rattle.readable_laws.specs.Uses.{implied_by, means_by}
use Rattle.leveled_modules.specs.Leveled.{LevelTables, file_faces, face_at}
use Rattle.alike_modules.specs.Known.{IsForeignTo, IsKnownFile, IsMadeOver, Knowledge, face_of, found_over, with_own_knowledge}
use Rattle.fact_values.specs.Names.{Texts}
use Rattle.family_facts.specs.Facts.{texts_of}
use Rattle.family_facts.specs.Family as families
use Rattle.family_facts.specs.Family.{Member, is_there}
use Rattle.family_facts.proofs.Lists.{among-or-not}
use Rattle.family_facts.proofs.Members.{member-there}
use Rattle.family_tables.specs.Agreement.{IsAgreed, IsAgreedFace, IsTaken, Own as TakenOwn, Shared as TakenShared, accepted_face, found_face}
use Rattle.family_tables.specs.Outcomes.{IsMember, Matches, status_by}
use Rattle.family_tables.specs.Tables.{entry_of}
use Rattle.family_tables.specs.declared.order.Plan.{Plan}
use Rattle.family_tables.specs.declared.outcome.Outcome.{Outcome}
use Rattle.family_tables.specs.declared.outcome.Outcome.TheVariants as outcome
use Rattle.family_tables.specs.declared.reading.Reading.TheVariants as reading
use Rattle.leveled_facts.specs.Families.{IsStatus, accepted, declares, leveled}
use Rattle.leveled_facts.specs.Modules.{Accepted, Leveled, Unknown, leveled_by, outside_by}
use Rattle.family_levels.specs.declared.«module».Found.{Found}
use Rattle.family_levels.specs.Leveling.{HasNumber, IsNext, IsReady, Says, faces_of, names_on}
use Rattle.family_levels.specs.Versions.{AreNeedsTold, AreViewed, IsAcceptedOver, IsFoundOver, IsHeld, IsHeldFace, IsMadeWith, IsNeedAccepted, IsNeedLacking, Over, Own, Shared, Shown, Told, given_over, leveled_over, number_in, numbers_over, outsides_over, status_told}
use Rattle.family_levels.specs.Laws.{AlikeLaws, FamilyLaws, KnownLaws}
use Rattle.family_levels.proofs.Statuses.{lack-is, lack-nothing, status-given}

some-text : (a b : ℕ) → ◌≡◌ {A = Option ℕ} (Some a) (Some b) → a ≡ b
some-text a b same = cc

some-face : (a b : Face) → ◌≡◌ {A = Option Face} (Some a) (Some b) → a ≡ b
some-face a b same = cc

-- ---- faces

module _ (outcomes : List (List ℕ × Outcome)) (name : List ℕ) (over : Over) (faces : (need : List ℕ) (told : Told) → over.told need ≡ Some told → found_face outcomes need ≡ Some told.shown.face) where
  held-taken : (decl : DeclId) (entries : Exports) → IsHeld over name decl entries → IsTaken outcomes name decl entries
  held-taken decl entries (Own own) = TakenOwn own
  held-taken decl entries (Shared need told is has) = TakenShared need told.shown.face (faces need told is) has

  -- a face over what is found goes with it
  pub held-agrees : (face : Face) (o : outcome.the_data) → accepted_face (Some o) ≡ Some face → IsHeldFace over name face → IsAgreed outcomes name o
  held-agrees face (outcome.Refused faults) is held = tt
  held-agrees face (outcome.Accepted shared) is held =
      subst (IsAgreedFace outcomes name) (sym (some-face (arc_value shared) face is))
      (record { named = held.named; whole = held.whole; from = λ decl entries there. held-taken decl entries (held.from decl entries there) })

  -- so does what was found of a module
  pub found-agrees : (known : LevelTables) (own : Option Shown) (tree : ModuleTree) (found : Found) → IsFoundOver known over own name tree found → IsAgreed outcomes name found.outcome
  found-agrees known own tree found is = by found.outcome refl found.number refl is.numbered
    where
      by : (o : outcome.the_data) → found.outcome ≡ o → (number : Option ℕ) → found.number ≡ number → HasNumber found.outcome found.number → IsAgreed outcomes name found.outcome
      by (outcome.Refused faults) e number at has = subst (IsAgreed outcomes name) (sym e) tt
      by (outcome.Accepted shared) e None at has = absurd (none-left (subst (λ o. HasNumber o found.number) e has))
        where
          none-left : is_some found.number ≡ true → ⊥
          none-left some = let never : false ≡ true = sym (ap is_some at) ∙ some in cc
      by (outcome.Accepted shared) e (Some number) at has = held-agrees (is.accepted number at).shown.face found.outcome (is.accepted number at).face_is (is.accepted number at).held

-- ---- modules

module _ (laws : FamilyLaws) (family : List Member) (plan : Plan) (outcomes : List (List ℕ × Outcome)) (numbers : List (List ℕ × ℕ)) (known : LevelTables) (name : List ℕ) (ready : IsReady family plan outcomes numbers known name)
    (tree : ModuleTree) (needs : List (List ℕ)) (member : IsMember family name (reading.Tree tree) needs) (over : Over) (told : AreNeedsTold family outcomes numbers name needs over) where
  abbrev texts : Texts
  texts = texts_of family

  abbrev source : List ℕ
  source = tree.source

  abbrev units : ModuleUnits
  units = module_of tree

  abbrev knowledge : Knowledge
  knowledge = ready.leveled_so.knowledge

  abbrev outs : List ℕ → Outside
  outs = outsides_over over

  accepted-status : (need : List ℕ) → IsNeedAccepted family outcomes numbers name need over → IsStatus family name need (given_over over need)
  accepted-status need n = by n (entry_of outcomes need) refl
    where
      by : (n : IsNeedAccepted family outcomes numbers name need over) (o : Option Outcome) → entry_of outcomes need ≡ o → IsStatus family name need (given_over over need)
      by n None e = let never : None ≡ Some n.told.shown.face = sym (ap accepted_face e) ∙ n.face in cc
      by n (Some (outcome.Refused faults)) e = let never : None ≡ Some n.told.shown.face = sym (ap accepted_face e) ∙ n.face in cc
      by n (Some (outcome.Accepted face)) e =
          subst (IsStatus family name need) (ap Accepted n.outside ∙ ap (status_told (over.lacks need)) (sym n.is))
          (accepted (ready.leveled_so.there need (outcome.Accepted face) e) n.apart (ready.leveled_so.says need (outcome.Accepted face) e).0)

  lacking-status : (need : List ℕ) → Contains needs need → IsNeedLacking family outcomes name need over → IsStatus family name need (given_over over need)
  lacking-status need c n =
      subst (λ t. IsStatus family name need (status_told (over.lacks need) t)) (sym n.is)
      (subst (IsStatus family name need) (sym (lack-is (leveled texts need).outside (over.lacks need) (over.are_lacks need) (status_by n.cyclic (entry_of outcomes need)) n.status))
      (status-given family plan outcomes numbers known name ready need (member.own need c) n.cyclic n.exactly (entry_of outcomes need) refl).is)

  need-status : (need : List ℕ) → Contains needs need → IsStatus family name need (given_over over need)
  need-status need c = by (told.each need c)
    where
      by : IsNeedAccepted family outcomes numbers name need over ⊎ IsNeedLacking family outcomes name need over → IsStatus family name need (given_over over need)
      by (inl n) = accepted-status need n
      by (inr n) = lacking-status need c n

  -- another one is not there
  unneeded : (need : List ℕ) → (Contains needs need → ⊥) → given_over over need ≡ Unknown
  unneeded need never = ap (status_told (over.lacks need)) (told.others need never) ∙ told.unknown need never

  -- this is found of it
  pub over-found : leveled texts name ≡ leveled_over over tree
  over-found =
      let m : Member = member.member in
      let front : IsFront m.name m.bytes (Tree units) = subst (λ n. IsFront n m.bytes (Tree units)) (sym member.named) member.is.front in
      let is : leveled texts m.name ≡ leveled_by (given_over over) m.bytes units =
      laws.checked family m units (given_over over) ready.distinct member.there front
      (λ need n. subst (λ x. IsStatus family x need (given_over over need)) (sym member.named) (need-status need (member.all need (subst (λ x. families.Needs family x need) member.named n))))
      (λ need never. unneeded need (λ c. never (subst (λ x. families.Needs family x need) (sym member.named) (member.own need c)))) in
      subst (λ x. leveled texts x ≡ leveled_by (given_over over) m.bytes units) member.named is ∙ ap (λ bytes. leveled_by (given_over over) bytes units) (sym member.is.source)

  -- a module is one of those, or it is not there
  pub any-told : (P : List ℕ → Type 0) → (other : List ℕ) → (IsNeedAccepted family outcomes numbers name other over → P other) → (over.told other ≡ None → P other) → P other
  any-told P other there absent = by (among-or-not needs other)
    where
      by : Contains needs other ⊎ (Contains needs other → ⊥) → P other
      by (inl c) = by_need (told.each other c)
        where
          by_need : IsNeedAccepted family outcomes numbers name other over ⊎ IsNeedLacking family outcomes name other over → P other
          by_need (inl n) = there n
          by_need (inr n) = absent n.is
      by (inr never) = absent (told.others other never)

  -- files are known
  pub over-known : KnownLaws → (other : List ℕ) → IsKnownFile (declares texts) known.tables.state.flat knowledge (file_faces (faces_of known) (numbers_over over) other) (outs other)
  over-known known_laws other = any-told (λ o. IsKnownFile (declares texts) known.tables.state.flat knowledge (file_faces (faces_of known) (numbers_over over) o) (outs o)) other there absent
    where
      there : IsNeedAccepted family outcomes numbers name other over → IsKnownFile (declares texts) known.tables.state.flat knowledge (file_faces (faces_of known) (numbers_over over) other) (outs other)
      there n =
          subst (λ t. IsKnownFile (declares texts) known.tables.state.flat knowledge (face_at (faces_of known) (number_in t)) (outside_by (status_told (over.lacks other) t))) (sym n.is)
          (subst (IsKnownFile (declares texts) known.tables.state.flat knowledge (faces_of known n.told.shown.number)) n.outside (ready.leveled_so.files other n.told.shown.number n.number))

      absent : over.told other ≡ None → IsKnownFile (declares texts) known.tables.state.flat knowledge (file_faces (faces_of known) (numbers_over over) other) (outs other)
      absent none =
          subst (λ t. IsKnownFile (declares texts) known.tables.state.flat knowledge (face_at (faces_of known) (number_in t)) (outside_by (status_told (over.lacks other) t))) (sym none)
          (subst (IsKnownFile (declares texts) known.tables.state.flat knowledge (face_at (faces_of known) None)) (sym (lack-nothing (over.lacks other) (over.are_lacks other))) (known_laws.nothing (declares texts) known.tables.state.flat knowledge))

  over-foreign : KnownLaws → (title : List ℕ) → entry_of outcomes title ≡ None → (other : List ℕ) → IsForeignTo title (outs other)
  over-foreign known_laws title later other = any-told (λ o. IsForeignTo title (outs o)) other there absent
    where
      there : IsNeedAccepted family outcomes numbers name other over → IsForeignTo title (outs other)
      there n = subst (λ t. IsForeignTo title (outside_by (status_told (over.lacks other) t))) (sym n.is) (subst (IsForeignTo title) n.outside (ready.leveled_so.foreign title other n.told.shown.number later n.number))

      absent : over.told other ≡ None → IsForeignTo title (outs other)
      absent none =
          subst (λ t. IsForeignTo title (outside_by (status_told (over.lacks other) t))) (sym none)
          (subst (IsForeignTo title) (sym (lack-nothing (over.lacks other) (over.are_lacks other))) (known_laws.foreign_nothing title))

  -- their views are those of their faces
  pub over-viewed : AreViewed over
  over-viewed other t is = any-told (λ o. (u : Told) → over.told o ≡ Some u → u.outside.view ≡ face_outside u.shown.face) other there absent t is
    where
      told-some : (a b : Told) → ◌≡◌ {A = Option Told} (Some a) (Some b) → a ≡ b
      told-some a b e = cc

      said : (n : IsNeedAccepted family outcomes numbers name other over) (o : Option Outcome) → entry_of outcomes other ≡ o → accepted_face o ≡ Some n.told.shown.face → n.told.outside.view ≡ face_outside n.told.shown.face
      said n None e has = absurd (cc has)
      said n (Some (outcome.Refused faults)) e has = absurd (cc has)
      said n (Some (outcome.Accepted face)) e has =
          ap (λ (o : Outside). o.view) (sym n.outside) ∙ (sym (ready.leveled_so.says other (outcome.Accepted face) e).1 ∙ ap face_outside (some-face (arc_value face) n.told.shown.face has))

      there : IsNeedAccepted family outcomes numbers name other over → (u : Told) → over.told other ≡ Some u → u.outside.view ≡ face_outside u.shown.face
      there n u at = subst (λ (v : Told). v.outside.view ≡ face_outside v.shown.face) (told-some n.told u (sym n.is ∙ at)) (said n (entry_of outcomes other) refl n.face)

      absent : over.told other ≡ None → (u : Told) → over.told other ≡ Some u → u.outside.view ≡ face_outside u.shown.face
      absent none u at = let never : None ≡ Some u = sym none ∙ at in cc

  title-is : (text_of source units).file ≡ name
  title-is = member.is.named

  outside-is : (leveled texts name).outside ≡ module_outside outs source units
  outside-is = ap (λ (l : Leveled). l.outside) over-found

  module _ (known_laws : KnownLaws) (unfound : entry_of outcomes name ≡ None) (ordered : IsOrdered known.tables.state.flat) where
    abbrev flat : FlatModule
    flat = known.tables.state.flat

    abbrev files : List ℕ → FlatFace
    files = file_faces (faces_of known) (numbers_over over)

    abbrev symbols : List Meaning
    symbols = symbols_of (module_outside outs source units)

    -- nodes that are its units are those of a module over files that are known
    pub made-over :
        (last : Reader) (asked : List Question) → IsModuleMade flat (means_by (found_over outs source units)) (implied_by (found_over outs source units)) files outs source units symbols last asked
        → faults (found_over outs source units) ≡ [] → arity_faults (found_over outs source units) units.units ≡ [] → IsMadeOver (declares texts) flat knowledge files outs name source units symbols last asked
    made-over last asked made names arities = record {
      made = made;
      ordered = ordered;
      known = record { each = over-known known_laws; plain = ready.leveled_so.plain };
      foreign = λ other. subst (λ t. IsForeignTo t (outs other)) (sym title-is) (over-foreign known_laws name unfound other);
      faultless = record {
        front = subst (λ b. IsFront name b (Tree units)) (sym member.is.source) member.is.front;
        names = names;
        arities = arities;
        places = subst (λ b. HasPlaces (declares texts) b units) (sym member.is.source) (laws.places family member.member units ready.distinct member.there (subst (λ n. IsFront n member.member.bytes (Tree units)) (sym member.named) member.is.front));
      };
      same = refl;
    }

    module _ (alike_laws : AlikeLaws) (own : Option Shown) (found : Found) (is : IsFoundOver known over own name tree found) where
      said : Says texts name found.outcome
      said = subst (λ (l : Leveled). Matches l.faults l.outside.view found.outcome) (sym over-found) is.says

      named : found.names ≡ names_on texts name
      named = is.names ∙ (λ i. record { uses = (sym over-found i).uses; decls = (sym over-found i).decls })

      there : is_there family name ≡ true
      there = member-there family name member.member member.there member.named

      refused-again : found.number ≡ None → IsNext family outcomes numbers name known found
      refused-again none = record {
        there = there;
        says = said;
        numbered = is.numbered;
        names = named;
        knowledge = knowledge;
        plain = ready.leveled_so.plain;
        others = ready.leveled_so.files;
        itself = λ number at. let never : None ≡ Some number = sym none ∙ at in cc;
        foreign = λ title number later apart at. let never : None ≡ Some number = sym none ∙ at in cc;
      }

      module _ (number : ℕ) (at : found.number ≡ Some number) where
        kept : IsAcceptedOver known over own name tree found number
        kept = is.accepted number at

        made : IsMadeWith known over name source units
        made = kept.made

        is-made : IsMadeOver (declares texts) flat knowledge files outs name source units symbols made.last made.asked
        is-made = made-over made.last made.asked made.made.made made.made.faultless.names made.made.faultless.arities

        accepted-again : IsNext family outcomes numbers name known found
        unfolding made kept
        accepted-again =
            let now : Knowledge = with_own_knowledge (declares texts) outs source units knowledge in
            record {
              there = there;
              says = said;
              numbered = is.numbered;
              names = named;
              knowledge = now;
              plain = known_laws.plain (declares texts) flat knowledge files outs name source units symbols made.last made.asked is-made;
              others = λ other number' at'.
                  known_laws.others (declares texts) flat knowledge outs source units (faces_of known number') (leveled texts other).outside (ready.leveled_so.files other number' at')
                  (subst (λ t. IsForeignTo t (leveled texts other).outside) (sym title-is) (ready.leveled_so.foreign name other number' unfound at'));
              itself = λ number' at'.
                  let same : number ≡ number' = some-text number number' (sym at ∙ at') in
                  subst (λ o. IsKnownFile (declares texts) flat now (faces_of known number') o) (sym outside-is)
                  (subst (λ n. IsKnownFile (declares texts) flat now (faces_of known n) (module_outside outs source units)) same
                  (alike_laws.known kept.like.declares (declares texts) flat kept.like.knowledge now (faces_of known number) (face_of outs source units made.last) kept.like.file (module_outside outs source units) kept.like.known
                  (known_laws.itself (declares texts) flat knowledge files outs name source units symbols made.last made.asked is-made) (kept.like.alike flat (record { nodes = λ i x there. there; definitions = λ i x there. there; instances = λ i x there. there }))));
              foreign = λ title number' later apart at'.
                  subst (IsForeignTo title) (sym outside-is)
                  (known_laws.foreign outs source title units (over-foreign known_laws title later) (ap (λ t. bytes_eq t title) title-is ∙ apart));
            }

      -- it is found again of the next module
      pub again-next : IsNext family outcomes numbers name known found
      again-next = by found.number refl
        where
          by : (number : Option ℕ) → found.number ≡ number → IsNext family outcomes numbers name known found
          by None none = refused-again none
          by (Some number) at = accepted-again number at
