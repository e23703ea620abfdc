-- The next module, with its version: found again, or anew.
use Rattle.std.proofs.Common.{◌≡◌, ◌<◌, ◌+◌, ◌⊎◌, inl, inr, ℕ, Bool, true, false, List, [], ◌∷◌, Option, Some, None, refl, sym, ap, subst, ◌∙◌, arith, cond, is_some}
use Rattle.std.specs.Prelude.{◌||◌, ◌↔◌, Contains, IfSome, IsSome, IsTrue}
use Rattle.std.specs.List.{AllByRecursion, AllZip, list_any}
use Rattle.std.specs.Arc.{arc_value}
use Rattle.std.specs.Str.{bytes_eq}
use Rattle.std.proofs.lemmas.Bool.{false≢true}
use Rattle.list_laws.proofs.Texts.{any-contains, contains-any, same-text}
use Rattle.tla_tree.specs.declared.unit.ModuleTree.{ModuleTree}
use Rattle.unit_grammar.specs.UnitNodes.{module_of}
use Rattle.kind_text.specs.FlatModule.{IsOrdered}
use Rattle.leveled_modules.specs.Leveled.{LevelTables}
use Rattle.fact_values.specs.Names.{Texts}
use Rattle.family_facts.specs.Facts.{texts_of}
use Rattle.family_facts.specs.Family as families
use Rattle.family_facts.specs.Family.{IsCyclic, Member}
use Rattle.family_facts.proofs.Needing.{HasNoOther}
use Rattle.family_tables.specs.Agreement.{IsAgreed, found_face}
use Rattle.family_tables.specs.Keeping.{IsRead}
use Rattle.family_tables.specs.Modules.{IsReading, needs_in, needs_of}
use Rattle.family_tables.specs.Outcomes.{IsMember, IsSomeModule, status_by}
use Rattle.family_tables.specs.Plans as plans
use Rattle.family_tables.specs.Tables.{entry_of}
use Rattle.family_tables.specs.declared.order.Plan.{Plan}
use Rattle.family_tables.specs.declared.outcome.Outcome.{Outcome}
use Rattle.family_tables.specs.declared.outcome.Outcome.TheVariants as outcome
use Rattle.family_tables.specs.declared.reading.Module.{Module}
use Rattle.family_tables.specs.declared.reading.Reading.TheVariants as reading
use Rattle.family_tables.proofs.Bridging.{cyclic-map}
use Rattle.leveled_facts.specs.Families.{leveled}
use Rattle.leveled_facts.specs.Modules.{import_status}
use Rattle.family_levels.specs.declared.«module».Found.{Found}
use Rattle.family_levels.specs.declared.versions.Need.{Need}
use Rattle.family_levels.specs.declared.versions.Need.TheVariants as need_as
use Rattle.family_levels.specs.declared.versions.Version.{Version}
use Rattle.family_levels.specs.Exactness.{IsExactOutcome}
use Rattle.family_levels.specs.Leveling.{HasNumber, IsNext, IsReady, face_count}
use Rattle.family_levels.specs.Versions.{AreNeedsTold, AreVersions, IsCopy, IsFoundOver, IsLack, IsNeedAccepted, IsNeedBelow, IsNeedLacking, IsVersion, Over, Shown, Told, lack_need, lack_over, need_in, shown_by, shown_in, shown_need, shown_over}
use Rattle.family_levels.specs.Again.{AreNeeds, ArePlaced, IsFoundAgain, IsFoundAs, IsLike, IsNeed, IsNextLeveled, IsPlaced, IsPlacedNext, IsSameVersion, IsVersionAnew, IsVersionAs, need_by, shown_after, version_by}
use Rattle.family_levels.specs.Laws.{AlikeLaws, FamilyLaws, KnownLaws}
use Rattle.family_levels.proofs.Across.{found-across}
use Rattle.family_levels.proofs.Taking.{LookAlike, found-taken, taken-next}
use Rattle.family_levels.proofs.Lasting.{exact-copy, found-copy, found-same, module-same, needs-below, needs-same, shown-below, shown-here, shown-same, version-copy, version-shown}
use Rattle.family_levels.proofs.Over.{again-next, found-agrees}

-- ---- what needs are

-- what is kept of modules that are needed, where their needs are these
abbrev pub shown_needs : (ℕ → Option Shown) → List (List ℕ) → List Need → List ℕ → Option Shown
shown_needs shown needs are other = shown_need shown (need_in needs are other)

-- a module of which this is kept, as it is among some texts
abbrev told_among : Texts → List ℕ → Option Shown → Option Told
told_among texts name None = None
told_among texts name (Some shown) = Some (record { shown = shown; outside = (leveled texts name).outside })

-- a need that is not accepted has no module behind it
pub lack-none : (need : Option Need) → IsLack (lack_need need)
lack-none None = tt
lack-none (Some need_as.Unknown) = tt
lack-none (Some need_as.Cyclic) = tt
lack-none (Some need_as.Refused) = tt
lack-none (Some (need_as.Version id)) = tt

-- the modules that are needed, as they are among some texts
abbrev pub over_needs : Texts → (ℕ → Option Shown) → List (List ℕ) → List Need → Over
over_needs texts shown needs are = record {
  told = λ other. told_among texts other (shown_needs shown needs are other);
  lacks = λ other. lack_need (need_in needs are other);
  are_lacks = λ other. lack-none (need_in needs are other);
}

shown-told : (texts : Texts) (name : List ℕ) (shown : Option Shown) → shown_in (told_among texts name shown) ≡ shown
shown-told texts name None = refl
shown-told texts name (Some shown) = refl

-- a name is needed and is this, or it is not needed
record IsNeeded (R : List ℕ → Need → Type 0) (needs : List (List ℕ)) (are : List Need) (other : List ℕ) : Type 0 where
  need : Need
  is : need_in needs are other ≡ Some need
  there : list_any (bytes_eq other) needs ≡ true
  related : R other need

record IsUnneeded (needs : List (List ℕ)) (are : List Need) (other : List ℕ) : Type 0 where
  is : need_in needs are other ≡ None
  absent : list_any (bytes_eq other) needs ≡ false

needed : (R : List ℕ → Need → Type 0) (needs : List (List ℕ)) (are : List Need) → AllZip R needs are → (other : List ℕ) → IsNeeded R needs are other ⊎ IsUnneeded needs are other
needed R [] [] all other = inr (record { is = refl; absent = refl })
needed R [] (n ∷ rest) all other = absurd all
needed R (need ∷ needs) [] all other = absurd all
needed R (need ∷ needs) (n ∷ rest) all other = by (bytes_eq other need) refl (needed R needs rest all.1 other)
  where
    at-here : (b : Bool) → bytes_eq other need ≡ b → need_in (need ∷ needs) (n ∷ rest) other ≡ cond b (Some n) (need_in needs rest other)
    at-here b same = ap (λ c. cond c (Some n) (need_in needs rest other)) same

    any-here : (b : Bool) → bytes_eq other need ≡ b → list_any (bytes_eq other) (need ∷ needs) ≡ (b || list_any (bytes_eq other) needs)
    any-here b same = ap (λ c. c || list_any (bytes_eq other) needs) same

    by : (b : Bool) → bytes_eq other need ≡ b → IsNeeded R needs rest other ⊎ IsUnneeded needs rest other → IsNeeded R (need ∷ needs) (n ∷ rest) other ⊎ IsUnneeded (need ∷ needs) (n ∷ rest) other
    by true same found = inl (record { need = n; is = at-here true same; there = any-here true same; related = subst (λ m. R m n) (sym (same-text other need same)) all.0 })
    by false apart (inl v) = inl (record { need = v.need; is = at-here false apart ∙ v.is; there = any-here false apart ∙ v.there; related = v.related })
    by false apart (inr v) = inr (record { is = at-here false apart ∙ v.is; absent = any-here false apart ∙ v.absent })

-- a version that was accepted
record IsAcceptedVersion (versions : List (List ℕ × Version)) (need : List ℕ) (id : ℕ) : Type 0 where
  version : Version
  there : entry_of versions need ≡ Some version
  some : IsSome version.found.number
  itself : version.id ≡ id

accepted-version : (versions : List (List ℕ × Version)) (need : List ℕ) (id : ℕ) → version_by (entry_of versions need) ≡ Some id → IsAcceptedVersion versions need id
accepted-version versions need id is = by (entry_of versions need) refl is
  where
    some-same : (a b : ℕ) → ◌≡◌ {A = Option ℕ} (Some a) (Some b) → a ≡ b
    some-same a b e = cc

    by_number : (version : Version) → entry_of versions need ≡ Some version → (b : Bool) → is_some version.found.number ≡ b → cond b (Some version.id) None ≡ Some id → IsAcceptedVersion versions need id
    by_number version e true some has = record { version = version; there = e; some = some; itself = some-same version.id id has }
    by_number version e false none has = absurd (cc has)

    by : (o : Option Version) → entry_of versions need ≡ o → version_by o ≡ Some id → IsAcceptedVersion versions need id
    by None e has = absurd (cc has)
    by (Some version) e has = by_number version e (is_some version.found.number) refl has

-- a need that is a version does not lead back, and has its number
record IsNeedAt (cyclic : Bool) (number : Option ℕ) (id : ℕ) : Type 0 where
  apart : cyclic ≡ false
  at : number ≡ Some id

need-at : (cyclic : Bool) (found : Option Outcome) (number : Option ℕ) (id : ℕ) → need_by cyclic found number ≡ Some (need_as.Version id) → IsNeedAt cyclic number id
need-at true found number id is = absurd (cc is)
need-at false None number id is = absurd (cc is)
need-at false (Some (outcome.Refused faults)) number id is = absurd (cc is)
need-at false (Some (outcome.Accepted face)) None id is = absurd (cc is)
need-at false (Some (outcome.Accepted face)) (Some own) id is = let same : own ≡ id = cc in record { apart = refl; at = ap (λ n. Some n) same }

-- another one has its status to names
need-status : (cyclic : Bool) (found : Option Outcome) (number : Option ℕ) (need : Need) → need_by cyclic found number ≡ Some need → ((id : ℕ) → need ≡ need_as.Version id → ⊥) → import_status (lack_need (Some need)) ≡ status_by cyclic found
need-status true found number need is other = subst (λ n. import_status (lack_need n) ≡ status_by true found) is refl
need-status false None number need is other = subst (λ n. import_status (lack_need n) ≡ status_by false None) is refl
need-status false (Some (outcome.Refused faults)) number need is other = subst (λ n. import_status (lack_need n) ≡ status_by false (Some (outcome.Refused faults))) is refl
need-status false (Some (outcome.Accepted face)) None need is other = absurd (cc is)
need-status false (Some (outcome.Accepted face)) (Some id) need is other = let same : need ≡ need_as.Version id = cc in absurd (other id same)

module _ (plan : Plan) (outcomes : List (List ℕ × Outcome)) (numbers : List (List ℕ × ℕ)) (shown : ℕ → Option Shown) (next : ℕ) (versions : List (List ℕ × Version)) (placed : ArePlaced outcomes numbers shown next versions) (name : List ℕ) (needs : List (List ℕ)) (needs_are : List Need) (are : AreNeeds plan outcomes versions name needs needs_are) where
  abbrev IsOne : List ℕ → Need → Type 0
  IsOne = IsNeed plan outcomes versions name

  at-version : (need : List ℕ) (id : ℕ) (n : IsOne need (need_as.Version id)) → IsNeedAt n.cyclic (version_by (entry_of versions need)) id
  at-version need id n = need-at n.cyclic (entry_of outcomes need) (version_by (entry_of versions need)) id n.itself

  one-below : (need : List ℕ) (is : Need) → IsOne need is → IsNeedBelow next is
  one-below need need_as.Unknown n = tt
  one-below need need_as.Cyclic n = tt
  one-below need need_as.Refused n = tt
  one-below need (need_as.Version id) n =
      let v = accepted-version versions need id (at-version need id n).at in
      subst (λ i. i < next) v.itself (placed need v.version v.there).below

  -- the versions that are needed have numbers below the next one
  all-below : (ns : List (List ℕ)) (rest : List Need) → AllZip IsOne ns rest → AllByRecursion (IsNeedBelow next) rest
  all-below [] [] all = tt
  all-below [] (n ∷ rest) all = absurd all
  all-below (need ∷ ns) [] all = absurd all
  all-below (need ∷ ns) (n ∷ rest) all = (one-below need n all.0, all-below ns rest all.1)

  pub found-below : AllByRecursion (IsNeedBelow next) needs_are
  found-below = all-below needs needs_are are

  shown-some : (a b : Shown) → ◌≡◌ {A = Option Shown} (Some a) (Some b) → a ≡ b
  shown-some a b e = cc

  place-of : (need : List ℕ) (id : ℕ) → IsOne need (need_as.Version id) → IsPlaced (entry_of outcomes need) (entry_of numbers need) (shown id)
  place-of need id n =
      let v = accepted-version versions need id (at-version need id n).at in
      subst (λ i. IsPlaced (entry_of outcomes need) (entry_of numbers need) (shown i)) v.itself ((placed need v.version v.there).is v.some)

  found-one : (need : List ℕ) (t : Shown) (is : Need) → IsOne need is → shown_need shown (Some is) ≡ Some t → found_face outcomes need ≡ Some t.face
  found-one need t need_as.Unknown n has = absurd (cc has)
  found-one need t need_as.Cyclic n has = absurd (cc has)
  found-one need t need_as.Refused n has = absurd (cc has)
  found-one need t (need_as.Version id) n has =
      let place = place-of need id n in
      let same : place.shown ≡ t = shown-some place.shown t (sym place.is ∙ has) in
      place.face ∙ ap (λ (u : Shown). Some u.face) same

  -- their faces are those that were found
  pub needs-found : (need : List ℕ) (t : Shown) → shown_needs shown needs needs_are need ≡ Some t → found_face outcomes need ≡ Some t.face
  needs-found need t is = by (needed IsOne needs needs_are are need)
    where
      by : IsNeeded IsOne needs needs_are need ⊎ IsUnneeded needs needs_are need → found_face outcomes need ≡ Some t.face
      by (inl v) = found-one need t v.need v.related (sym (ap (shown_need shown) v.is) ∙ is)
      by (inr v) = let never : None ≡ Some t = sym (ap (shown_need shown) v.is) ∙ is in cc

  module _ (family : List Member) (known : LevelTables) (ready : IsReady family plan outcomes numbers known name) (own : (need : List ℕ) → Contains needs need → families.Needs family name need) where
    abbrev over_these : Over
    over_these = over_needs (texts_of family) shown needs needs_are

    -- whether a need leads back is told by the members as it is by the plan
    one-exactly : (need : List ℕ) (c : Contains needs need) (is : Need) (n : IsOne need is) → IsTrue n.cyclic ↔ IsCyclic family name need
    one-exactly need c is n =
        let exactly = n.exactly ready.entries ready.planned (ready.all name need (own need c)) in (
          λ answer. cyclic-map (plans.Needs ready.entries) (families.Needs family) name need ready.own (exactly.0 answer),
          λ cycle. exactly.1 (cyclic-map (families.Needs family) (plans.Needs ready.entries) name need ready.all cycle),
        )

    accepted-one : (need : List ℕ) → Contains needs need → (id : ℕ) → IsOne need (need_as.Version id) → need_in needs needs_are need ≡ Some (need_as.Version id) → IsNeedAccepted family outcomes numbers name need over_these
    accepted-one need c id n at =
        let place = place-of need id n in
        record {
          told = record { shown = place.shown; outside = (leveled (texts_of family) need).outside };
          is = ap (told_among (texts_of family) need) (ap (shown_need shown) at ∙ place.is);
          face = place.face;
          number = place.at;
          outside = refl;
          apart = λ cycle. false≢true (sym (at-version need id n).apart ∙ (one-exactly need c (need_as.Version id) n).1 cycle);
        }

    lacking-one : (need : List ℕ) → Contains needs need → (is : Need) → IsOne need is → need_in needs needs_are need ≡ Some is → ((id : ℕ) → is ≡ need_as.Version id → ⊥) → shown_need shown (Some is) ≡ None → IsNeedLacking family outcomes name need over_these
    lacking-one need c is n at other none = record {
      is = ap (told_among (texts_of family) need) (ap (shown_need shown) at ∙ none);
      cyclic = n.cyclic;
      exactly = one-exactly need c is n;
      status = ap (λ m. import_status (lack_need m)) at ∙ need-status n.cyclic (entry_of outcomes need) (version_by (entry_of versions need)) is n.itself other;
    }

    one-told : (need : List ℕ) → Contains needs need → (is : Need) → IsOne need is → need_in needs needs_are need ≡ Some is → IsNeedAccepted family outcomes numbers name need over_these ⊎ IsNeedLacking family outcomes name need over_these
    one-told need c need_as.Unknown n at = inr (lacking-one need c need_as.Unknown n at (λ id same. cc same) refl)
    one-told need c need_as.Cyclic n at = inr (lacking-one need c need_as.Cyclic n at (λ id same. cc same) refl)
    one-told need c need_as.Refused n at = inr (lacking-one need c need_as.Refused n at (λ id same. cc same) refl)
    one-told need c (need_as.Version id) n at = inl (accepted-one need c id n at)

    -- they are told so
    pub needs-told : AreNeedsTold family outcomes numbers name needs over_these
    needs-told = record {
      each = λ need c. each need c (needed IsOne needs needs_are are need);
      others = λ other never. ap (λ n. told_among (texts_of family) other (shown_need shown n)) (none-in other never (needed IsOne needs needs_are are other));
      unknown = λ other never. ap lack_need (none-in other never (needed IsOne needs needs_are are other));
    }
      where
        each : (need : List ℕ) → Contains needs need → IsNeeded IsOne needs needs_are need ⊎ IsUnneeded needs needs_are need → IsNeedAccepted family outcomes numbers name need over_these ⊎ IsNeedLacking family outcomes name need over_these
        each need c (inl v) = one-told need c v.need v.related v.is
        each need c (inr v) = let never : true ≡ false = sym (contains-any needs need c) ∙ v.absent in cc

        none-in : (other : List ℕ) → (Contains needs other → ⊥) → IsNeeded IsOne needs needs_are other ⊎ IsUnneeded needs needs_are other → need_in needs needs_are other ≡ None
        none-in other never (inl v) = absurd (never (any-contains needs other v.there))
        none-in other never (inr v) = v.is

-- ---- modules that were read

-- the tree of a module, with its needs
pub record IsTreeHere (name : List ℕ) («module» : Module) (tree : ModuleTree) : Type 0 where
  pub read : IsRead name tree
  pub needs : «module».needs ≡ needs_of tree

pub tree-here : (name : List ℕ) (m : Module) (tree : ModuleTree) → IsSomeModule name m → m.reading ≡ reading.Tree tree → IsTreeHere name m tree
tree-here name m tree some reads = record {
  read = (some.0, subst (IsReading name some.0) reads some.1.reading);
  needs = some.1.needs ∙ ap needs_in reads;
}

-- ---- found again

module _ (no_other : HasNoOther) (plan : Plan) (outcomes : List (List ℕ × Outcome)) (numbers : List (List ℕ × ℕ)) (shown : ℕ → Option Shown) (next : ℕ) (old versions : List (List ℕ × Version)) (placed : ArePlaced outcomes numbers shown next versions) (name : List ℕ) (m : Module) (some : IsSomeModule name m)
    (needs : Option (List Need)) (known : LevelTables) (are : AreVersions known shown next old) (asked : IfSome needs (AreNeeds plan outcomes versions name m.needs)) (version copy : Version) (found : Found) (again : IsFoundAgain old name m needs version) (same : IsSameVersion version copy) (taken : IsCopy version.found found) where
  here : IsTreeHere name m again.tree
  here = tree-here name m again.tree some again.reads

  was : IsVersion known shown next name version
  was = are name version again.there

  module-is : module_of version.tree ≡ module_of again.tree
  module-is = module-same no_other name version.tree again.tree was.found.read here.read again.is.same

  needs-are : needs_of version.tree ≡ m.needs
  needs-are = needs-same version.tree again.tree again.is.same module-is ∙ sym here.needs

  needed-are : AreNeeds plan outcomes versions name m.needs version.needs
  needed-are = subst (AreNeeds plan outcomes versions name m.needs) (sym again.is.over) (subst (λ n. IfSome n (AreNeeds plan outcomes versions name m.needs)) again.over asked)

  -- what is kept of its needs is what was kept of them then
  shows-are : (other : List ℕ) → shown_in (was.over.told other) ≡ shown_needs shown m.needs version.needs other
  shows-are other = was.shows other ∙ ap (λ ns. shown_needs shown ns version.needs other) needs-are

  -- and the others are what they were
  lacks-are : (other : List ℕ) → was.over.lacks other ≡ lack_need (need_in m.needs version.needs other)
  lacks-are other = was.lacks other ∙ ap (λ ns. lack_need (need_in ns version.needs other)) needs-are

  again-found : IsFoundOver known was.over (shown version.id) name again.tree found
  again-found =
      found-same known was.over (shown version.id) name version.tree again.tree found here.read again.is.same module-is
      (found-copy known was.over (shown version.id) name version.tree version.found found taken was.found)

  faces-are : (need : List ℕ) (t : Told) → was.over.told need ≡ Some t → found_face outcomes need ≡ Some t.shown.face
  faces-are need t is = needs-found plan outcomes numbers shown next versions placed name m.needs version.needs needed-are need t.shown (sym (shows-are need) ∙ ap shown_in is)

  -- what is kept of each version stays
  after-is : shown_after shown next found copy.id ≡ shown version.id
  after-is = shown-below shown next (shown_by found.outcome found.number) copy.id (subst (λ id. id < next) (sym same.id) was.itself) ∙ ap shown same.id

  number-same : IsSome copy.found.number → IsSome found.number
  number-same has = subst IsSome (same.found.number ∙ sym taken.number) has

  placed-by : (number : Option ℕ) → found.number ≡ number → IsSome found.number → IsPlaced (Some found.outcome) found.number (shown version.id)
  placed-by None at has = let never : false ≡ true = sym (ap is_some at) ∙ has in cc
  placed-by (Some number) at has =
      let a = again-found.accepted number at in
      record { shown = a.shown; is = a.is; face = a.face_is; at = at ∙ ap (λ n. Some n) (sym a.number_is) }

  below-by : (number : Option ℕ) → found.number ≡ number → IfSome found.number (λ n. n < face_count known)
  below-by None at = subst (λ n. IfSome n (λ k. k < face_count known)) (sym at) tt
  below-by (Some number) at = subst (λ n. IfSome n (λ k. k < face_count known)) (sym at) (again-found.accepted number at).there

  pub again-placed : IsPlacedNext outcomes shown next name known found (Some copy)
  again-placed = record {
    agreed = found-agrees outcomes name was.over faces-are known (shown version.id) again.tree found again-found;
    exact = exact-copy version.found.outcome found.outcome taken.face was.exact;
    number = below-by found.number refl;
    below = let less : copy.id < next = subst (λ id. id < next) (sym same.id) was.itself in omega (arith, less);
    placed = λ has. subst (IsPlaced (Some found.outcome) found.number) (sym after-is) (placed-by found.number refl (number-same has));
  }

  module _ (known_laws : KnownLaws) (alike_laws : AlikeLaws) (laws : FamilyLaws) (family : List Member) (ready : IsReady family plan outcomes numbers known name) (member : IsMember family name m.reading m.needs) (unfound : entry_of outcomes name ≡ None) (ordered : IsOrdered known.tables.state.flat) where
    abbrev over : Over
    over = over_needs (texts_of family) shown m.needs version.needs

    tree-member : IsMember family name (reading.Tree again.tree) m.needs
    tree-member = subst (λ r. IsMember family name r m.needs) again.reads member

    needs-are-told : AreNeedsTold family outcomes numbers name m.needs over
    needs-are-told = needs-told plan outcomes numbers shown next versions placed name m.needs version.needs needed-are family known ready member.own

    now-found : IsFoundOver known over (shown version.id) name again.tree found
    now-found =
        found-across laws family plan outcomes numbers known name ready again.tree m.needs tree-member over needs-are-told known_laws unfound ordered alike_laws was.over
        (λ other. shows-are other ∙ sym (shown-told (texts_of family) other (shown_needs shown m.needs version.needs other))) lacks-are (shown version.id) found again-found

    pub again-leveled : IsNextLeveled family outcomes numbers shown next name known found (Some copy)
    again-leveled = record {
      is = again-next laws family plan outcomes numbers known name ready again.tree m.needs tree-member over needs-are-told known_laws unfound ordered alike_laws (shown version.id) found now-found;
      held = version-shown shown (shown_after shown next found) next (shown-below shown next (shown_by found.outcome found.number)) known (next + 1) (omega (arith)) name copy (version-copy known shown next name version copy same was);
    }

-- ---- found anew

-- an accepted module is kept with its face and its number
shown-placed : (o : outcome.the_data) (number : Option ℕ) → HasNumber o number → IsSome number → IsPlaced (Some o) number (shown_by o number)
shown-placed (outcome.Refused faults) number none some = let never : false ≡ true = sym (ap is_some none) ∙ some in cc
shown-placed (outcome.Accepted face) None has some = absurd (cc some)
shown-placed (outcome.Accepted face) (Some number) has some = record { shown = record { face = arc_value face; number = number }; is = refl; face = refl; at = refl }

module _ (plan : Plan) (outcomes : List (List ℕ × Outcome)) (numbers : List (List ℕ × ℕ)) (shown : ℕ → Option Shown) (next : ℕ) (versions : List (List ℕ × Version)) (placed : ArePlaced outcomes numbers shown next versions) (name : List ℕ) (m : Module) (some : IsSomeModule name m)
    (needs : Option (List Need)) (known new : LevelTables) (asked : IfSome needs (AreNeeds plan outcomes versions name m.needs)) (found : Found) (numbered : HasNumber found.outcome found.number) (exact : IsExactOutcome found.outcome) where
  module _ (version : Version) (anew : IsVersionAnew m needs next found version) where
    here-anew : IsTreeHere name m version.tree
    here-anew = tree-here name m version.tree some anew.reads

    needed-anew : AreNeeds plan outcomes versions name m.needs version.needs
    needed-anew = subst (λ n. IfSome n (AreNeeds plan outcomes versions name m.needs)) anew.over asked

    abbrev own-anew : Option Shown
    own-anew = shown_by found.outcome found.number

    after-anew : shown_after shown next found version.id ≡ own-anew
    after-anew = ap (shown_after shown next found) anew.itself ∙ shown-here shown next own-anew

    placed-anew : IsSome version.found.number → IsPlaced (Some found.outcome) found.number (shown_after shown next found version.id)
    placed-anew has = subst (IsPlaced (Some found.outcome) found.number) (sym after-anew) (shown-placed found.outcome found.number numbered (subst IsSome anew.copy.number has))

    below-anew : version.id < next + 1
    below-anew = let is : version.id ≡ next = anew.itself in omega (arith, is)

    below-now : AllByRecursion (IsNeedBelow next) version.needs
    below-now = found-below plan outcomes numbers shown next versions placed name m.needs version.needs needed-anew

    module _ (laws : FamilyLaws) (family : List Member) (ready : IsReady family plan outcomes numbers known name) (member : IsMember family name m.reading m.needs)
        (so : AreNeedsTold family outcomes numbers name m.needs (over_needs (texts_of family) shown m.needs version.needs) → IsFoundOver new (over_needs (texts_of family) shown m.needs version.needs) own-anew name version.tree found) where
      abbrev over-anew : Over
      over-anew = over_needs (texts_of family) shown m.needs version.needs

      found-anew : IsFoundOver new over-anew own-anew name version.tree found
      found-anew = so (needs-told plan outcomes numbers shown next versions placed name m.needs version.needs needed-anew family known ready member.own)

      all-below-anew : (needs_are : List Need) → AllByRecursion (IsNeedBelow next) needs_are → AllByRecursion (IsNeedBelow (next + 1)) needs_are
      all-below-anew = needs-below next (next + 1) (omega (arith))

      shows-anew : (other : List ℕ) → shown_in (over-anew.told other) ≡ shown_over (shown_after shown next found) version other
      shows-anew other =
          shown-told (texts_of family) other (shown_needs shown m.needs version.needs other)
          ∙ (ap (λ ns. shown_needs shown ns version.needs other) here-anew.needs ∙ shown-same shown (shown_after shown next found) next (shown-below shown next own-anew) version below-now other)

      lacks-anew : (other : List ℕ) → over-anew.lacks other ≡ lack_over version other
      lacks-anew other = ap (λ ns. lack_need (need_in ns version.needs other)) here-anew.needs

      version-anew : IsVersion new (shown_after shown next found) (next + 1) name version
      version-anew = record {
        needs = all-below-anew version.needs below-now;
        itself = below-anew;
        over = over-anew;
        shows = shows-anew;
        lacks = lacks-anew;
        exact = exact-copy found.outcome version.found.outcome anew.copy.face exact;
        found = subst (λ own. IsFoundOver new over-anew own name version.tree version.found) (sym after-anew) (found-copy new over-anew own-anew name version.tree found version.found anew.copy found-anew);
      }

      -- in the place of one that was to others what it is
      module _ (look : LookAlike) (alike_laws : AlikeLaws) (before : Version) (was : IsVersion new shown next name before) (taken : Found) (like : IsLike new before found) (taking : IsFoundAs before found taken) (copy : Version) (in_place : IsVersionAs before version taken copy) where
        kept-shown : shown_after shown next taken before.id ≡ shown before.id
        kept-shown = shown-below shown next (shown_by taken.outcome taken.number) before.id was.itself

        shows-taken : (other : List ℕ) → shown_in (over-anew.told other) ≡ shown_over (shown_after shown next taken) copy other
        shows-taken other =
            shown-told (texts_of family) other (shown_needs shown m.needs version.needs other)
            ∙ (ap (λ ns. shown_needs shown ns version.needs other) here-anew.needs
            ∙ (shown-same shown (shown_after shown next taken) next (shown-below shown next (shown_by taken.outcome taken.number)) version below-now other
            ∙ (λ i. shown_need (shown_after shown next taken) (need_in (needs_of (sym in_place.tree i)) (sym in_place.needs i) other))))

        version-taken : IsVersion new (shown_after shown next taken) (next + 1) name copy
        version-taken = record {
          needs = all-below-anew copy.needs (subst (AllByRecursion (IsNeedBelow next)) (sym in_place.needs) below-now);
          itself = let less : copy.id < next = subst (λ id. id < next) (sym in_place.id) was.itself in omega (arith, less);
          over = over-anew;
          shows = shows-taken;
          lacks = λ other. lacks-anew other ∙ (λ i. lack_need (need_in (needs_of (sym in_place.tree i)) (sym in_place.needs i) other));
          exact = exact-copy taken.outcome copy.found.outcome in_place.copy.face (exact-copy before.found.outcome taken.outcome taking.face was.exact);
          found =
              subst (λ own. IsFoundOver new over-anew own name copy.tree copy.found) (sym (ap (shown_after shown next taken) in_place.id ∙ kept-shown))
              (subst (λ t. IsFoundOver new over-anew (shown before.id) name t copy.found) (sym in_place.tree)
              (found-copy new over-anew (shown before.id) name version.tree taken copy.found in_place.copy (found-taken new before found taken like taking shown next name was look over-anew own-anew version.tree found-anew)));
        }

        pub taken-leveled : IsNext family outcomes numbers name new found → IsNextLeveled family outcomes numbers shown next name new taken (Some copy)
        taken-leveled is_next = record { is = taken-next new before found taken like taking shown next name was look alike_laws family outcomes numbers is_next; held = version-taken }

  -- the version of the next module is one, if it has one
  module _ (version : Option Version) (anew : IfSome version (IsVersionAnew m needs next found)) (agreed : IsAgreed outcomes name found.outcome) (number : IfSome found.number (λ n. n < face_count new)) where
    pub anew-placed : IsPlacedNext outcomes shown next name new found version
    anew-placed = by version anew
      where
        by : (v : Option Version) → IfSome v (IsVersionAnew m needs next found) → IsPlacedNext outcomes shown next name new found v
        by None is = record { agreed = agreed; exact = exact; number = number; below = tt; placed = tt }
        by (Some v) is = record { agreed = agreed; exact = exact; number = number; below = below-anew v is; placed = placed-anew v is }

    pub anew-leveled : FamilyLaws → (family : List Member) → IsReady family plan outcomes numbers known name → IsMember family name m.reading m.needs → IsNext family outcomes numbers name new found
        → ((over : Over) (tree : ModuleTree) → m.reading ≡ reading.Tree tree → AreNeedsTold family outcomes numbers name m.needs over → IsFoundOver new over (shown_by found.outcome found.number) name tree found)
        → IsNextLeveled family outcomes numbers shown next name new found version
    anew-leveled laws family ready member is_next so = by version anew
      where
        by : (v : Option Version) → IfSome v (IsVersionAnew m needs next found) → IsNextLeveled family outcomes numbers shown next name new found v
        by None is = record { is = is_next; held = tt }
        by (Some v) is = record { is = is_next; held = version-anew v is laws family ready member (so (over_needs (texts_of family) shown m.needs v.needs) v.tree is.reads) }
