-- What was found of versions stays so: of copies, over more nodes, and with further versions.
use mathlib.Core.Path.{fun_ext}
use Rattle.std.proofs.Common.{◌≡◌, ◌<◌, ◌≤◌, ℕ, Bool, true, false, List, [], ◌∷◌, Option, Some, None, refl, sym, ap, subst, ◌∙◌, arith, cond, map}
use Rattle.std.proofs.lemmas.Bool.{eq-eqb, eqb-true}
use Rattle.std.specs.Prelude.{IfSome, nat_eq}
use Rattle.std.specs.List.{AllByRecursion}
use Rattle.std.specs.Arc.{arc_value}
use Rattle.std.specs.Str.{bytes_eq}
use Rattle.tla_tree.specs.declared.unit.ModuleTree.{ModuleTree}
use Rattle.tla_model.specs.declared.Diagnostic.{Diagnostic}
use Rattle.tla_model.specs.Entities.{Meaning}
use Rattle.unit_grammar.specs.UnitNodes.{module_of}
use Rattle.unit_grammar.specs.Units.{ModuleUnits}
use Rattle.front_laws.specs.Fronts.{Front, IsFront, Tree}
use Rattle.module_model.specs.declared.face.Face.{Face}
use Rattle.module_model.specs.Exports.{ModuleView, face_outside}
use Rattle.module_graph.specs.Imports.{imports_of}
use Rattle.tla_model.specs.Lexemes.{spelled}
use Rattle.kind_text.specs.FlatModule.{Extends, FlatModule, IsOrdered}
use Rattle.tree_kinds.specs.Standing.{Outside}
use Rattle.module_kinds.specs.ModuleKinds.{outside as module_outside}
use Rattle.flat_trees.specs.Instances.{symbols_of}
use Rattle.flat_kinds.specs.Declarations.{Declarations}
use Rattle.flattened_trees.specs.Leads.{FlatFace}
use Rattle.flattened_trees.specs.Questions.{Question}
use Rattle.flattened_units.specs.Units.{IsModuleMade, Reader}
use Rattle.readable_laws.specs.Uses.{implied_by, means_by}
use Rattle.leveled_modules.specs.Leveled.{LevelTables, face_at, file_faces}
use Rattle.alike_modules.specs.Known.{IsKnownFile, IsMadeOver, Knowledge, face_of, found_over}
use Rattle.family_facts.proofs.Needing.{HasNoOther}
use Rattle.family_tables.specs.Agreement.{accepted_face}
use Rattle.family_tables.specs.Keeping.{IsRead}
use Rattle.family_tables.specs.Modules.{needs_of}
use Rattle.family_tables.specs.Outcomes.{Matches, faults_of}
use Rattle.family_tables.specs.declared.outcome.Outcome.TheVariants as outcome
use Rattle.leveled_facts.specs.Modules.{Leveled, leveled_by}
use Rattle.family_levels.specs.declared.«module».Found.{Found}
use Rattle.family_levels.specs.declared.versions.Need.{Need}
use Rattle.family_levels.specs.declared.versions.Need.TheVariants as need_as
use Rattle.family_levels.specs.declared.versions.Version.{Version}
use Rattle.family_levels.specs.Exactness.{IsExactOutcome}
use Rattle.family_levels.specs.Leveling.{HasNumber, face_count, faces_of}
use Rattle.family_levels.specs.Versions.{AreVersions, Grows, IsAcceptedOver, IsCopy, IsFaceLike, IsFoundOver, IsMadeWith, IsNeedBelow, IsVersion, Over, Shown, given_over, leveled_over, named_faults, numbers_over, outsides_over, lack_need, need_in, shown_need, shown_over}
use Rattle.family_levels.specs.Again.{IsSameVersion, shown_with}

-- ---- copies

face-some : (a b : Face) → ◌≡◌ {A = Option Face} (Some a) (Some b) → a ≡ b
face-some a b e = cc

matches-copy : (faults : List Diagnostic) (view : ModuleView) (o copy : outcome.the_data) → faults_of (Some copy) ≡ faults_of (Some o) → accepted_face (Some copy) ≡ accepted_face (Some o) → Matches faults view o → Matches faults view copy
matches-copy faults view (outcome.Refused these) (outcome.Refused those) same face is = (same ∙ is.0, is.1)
matches-copy faults view (outcome.Refused these) (outcome.Accepted shared) same face is = absurd (cc face)
matches-copy faults view (outcome.Accepted one) (outcome.Refused those) same face is = absurd (cc face)
matches-copy faults view (outcome.Accepted one) (outcome.Accepted shared) same face is = (is.0, ap face_outside (face-some (arc_value shared) (arc_value one) face) ∙ is.1)

number-copy : (number : Option ℕ) (o copy : outcome.the_data) → accepted_face (Some copy) ≡ accepted_face (Some o) → HasNumber o number → HasNumber copy number
number-copy number (outcome.Refused these) (outcome.Refused those) face has = has
number-copy number (outcome.Refused these) (outcome.Accepted shared) face has = absurd (cc face)
number-copy number (outcome.Accepted one) (outcome.Refused those) face has = absurd (cc face)
number-copy number (outcome.Accepted one) (outcome.Accepted shared) face has = has

-- a copy has an exact face too
pub exact-copy : (o copy : outcome.the_data) → accepted_face (Some copy) ≡ accepted_face (Some o) → IsExactOutcome o → IsExactOutcome copy
exact-copy o copy same is face has = is face (sym same ∙ has)

-- a copy was found of it too
pub found-copy : (known : LevelTables) (over : Over) (own : Option Shown) (name : List ℕ) (tree : ModuleTree) (found copy : Found) → IsCopy found copy → IsFoundOver known over own name tree found → IsFoundOver known over own name tree copy
found-copy known over own name tree found copy same is = record {
  read = is.read;
  viewed = is.viewed;
  says = matches-copy (leveled_over over tree).faults (leveled_over over tree).outside.view found.outcome copy.outcome same.faults same.face is.says;
  numbered = subst (HasNumber copy.outcome) (sym same.number) (number-copy found.number found.outcome copy.outcome same.face is.numbered);
  names = same.names ∙ is.names;
  made = is.made;
  accepted = λ number at. by number (is.accepted number (sym same.number ∙ at));
}
  where
    by : (number : ℕ) → IsAcceptedOver known over own name tree found number → IsAcceptedOver known over own name tree copy number
    by number a = record { there = a.there; shown = a.shown; is = a.is; number_is = a.number_is; face_is = same.face ∙ a.face_is; held = a.held; made = a.made; like = a.like }

-- ---- more nodes

abbrev pub MadeStay : Type 0
MadeStay =
    (flat more : FlatModule) (means : ℕ → Option Meaning) (implied : ℕ → List Meaning) (files : List ℕ → FlatFace) (outsides : List ℕ → Outside) (source : List ℕ) (units : ModuleUnits) (symbols : List Meaning) (last : Reader) (asked : List Question)
    → Extends flat more → IsModuleMade flat means implied files outsides source units symbols last asked → IsModuleMade more means implied files outsides source units symbols last asked

abbrev pub KnownStay : Type 0
KnownStay =
    (declares : Declarations) (flat more : FlatModule) (knowledge : Knowledge) (face : FlatFace) (file : Outside) → Extends flat more → IsOrdered flat
    → IsKnownFile declares flat knowledge face file → IsKnownFile declares more knowledge face file

-- nothing more
pub grows-none : (known : LevelTables) → Grows known known
grows-none known = record {
  nodes = record { nodes = λ i x at. at; definitions = λ i x at. at; instances = λ i x at. at };
  faces = record { count = omega (arith); faces = λ number below. refl };
}

extends-more : (flat more most : FlatModule) → Extends flat more → Extends more most → Extends flat most
extends-more flat more most first second = record {
  nodes = λ i x at. second.nodes i x (first.nodes i x at);
  definitions = λ i x at. second.definitions i x (first.definitions i x at);
  instances = λ i x at. second.instances i x (first.instances i x at);
}

module _ (stay : MadeStay) (known_stay : KnownStay) (old new : LevelTables) (grows : Grows old new) (was_ordered : IsOrdered old.tables.state.flat) (is_ordered : IsOrdered new.tables.state.flat) where
  abbrev was_flat : FlatModule
  was_flat = old.tables.state.flat

  abbrev is_flat : FlatModule
  is_flat = new.tables.state.flat

  still-less : (number : ℕ) → number < face_count old → number < face_count new
  still-less number less = let more : face_count old ≤ face_count new = grows.faces.count in omega (arith, less, more)

  -- nodes over files that are known are so in a flat module that has more
  over-grows : (declares : Declarations) (knowledge : Knowledge) (files : List ℕ → FlatFace) (outsides : List ℕ → Outside) (name bytes : List ℕ) (units : ModuleUnits) (symbols : List Meaning) (last : Reader) (asked : List Question)
      → IsMadeOver declares was_flat knowledge files outsides name bytes units symbols last asked → IsMadeOver declares is_flat knowledge files outsides name bytes units symbols last asked
  over-grows declares knowledge files outsides name bytes units symbols last asked is = record {
    made = stay was_flat is_flat (means_by (found_over outsides bytes units)) (implied_by (found_over outsides bytes units)) files outsides bytes units symbols last asked grows.nodes is.made;
    ordered = is_ordered;
    known = record { each = λ other. known_stay declares was_flat is_flat knowledge (files other) (outsides other) grows.nodes was_ordered (is.known.each other); plain = is.known.plain };
    foreign = is.foreign;
    faultless = is.faultless;
    same = is.same;
  }

  made-grows : (over : Over) (name source : List ℕ) (units : ModuleUnits) → IsMadeWith old over name source units → IsMadeWith new over name source units
  made-grows over name source units is = record {
    last = is.last;
    asked = is.asked;
    below = λ other. below-by (numbers_over over other) (is.below other);
    declares = is.declares;
    knowledge = is.knowledge;
    made =
        subst (λ (f : List ℕ → FlatFace). IsMadeOver is.declares is_flat is.knowledge f (outsides_over over) name source units (symbols_of (module_outside (outsides_over over) source units)) is.last is.asked)
        (fun_ext (λ other. face-by (numbers_over over other) (is.below other)))
        (over-grows is.declares is.knowledge (file_faces (faces_of old) (numbers_over over)) (outsides_over over) name source units (symbols_of (module_outside (outsides_over over) source units)) is.last is.asked is.made);
  }
    where
      below-by : (n : Option ℕ) → IfSome n (λ m. m < face_count old) → IfSome n (λ m. m < face_count new)
      below-by None less = tt
      below-by (Some m) less = still-less m less

      face-by : (n : Option ℕ) → IfSome n (λ m. m < face_count old) → face_at (faces_of old) n ≡ face_at (faces_of new) n
      face-by None less = refl
      face-by (Some m) less = sym (grows.faces.faces m less)

  like-grows : (face other : FlatFace) → IsFaceLike was_flat face other → IsFaceLike is_flat face other
  like-grows face other is = record {
    declares = is.declares;
    knowledge = is.knowledge;
    file = is.file;
    known = known_stay is.declares was_flat is_flat is.knowledge face is.file grows.nodes was_ordered is.known;
    alike = λ more extends. is.alike more (extends-more was_flat is_flat more grows.nodes extends);
  }

  pub found-grows : (over : Over) (own : Option Shown) (name : List ℕ) (tree : ModuleTree) (found : Found) → IsFoundOver old over own name tree found → IsFoundOver new over own name tree found
  unfolding made-grows
  found-grows over own name tree found is = record {
    read = is.read;
    viewed = is.viewed;
    says = is.says;
    numbered = is.numbered;
    names = is.names;
    made = λ none. made-grows over name tree.source (module_of tree) (is.made none);
    accepted = λ number at. by number (is.accepted number at);
  }
    where
      by : (number : ℕ) → IsAcceptedOver old over own name tree found number → IsAcceptedOver new over own name tree found number
      by number a = record {
        there = still-less number a.there;
        shown = a.shown;
        is = a.is;
        number_is = a.number_is;
        face_is = a.face_is;
        held = a.held;
        made = made-grows over name tree.source (module_of tree) a.made;
        like =
            subst (λ f. IsFaceLike is_flat f (face_of (outsides_over over) tree.source (module_of tree) a.made.last)) (sym (grows.faces.faces number a.there))
            (like-grows (faces_of old number) (face_of (outsides_over over) tree.source (module_of tree) a.made.last) a.like);
      }

  pub versions-grow : (shown : ℕ → Option Shown) (next : ℕ) (versions : List (List ℕ × Version)) → AreVersions old shown next versions → AreVersions new shown next versions
  versions-grow shown next versions are name version there =
      let is = are name version there in
      record { needs = is.needs; itself = is.itself; over = is.over; shows = is.shows; lacks = is.lacks; exact = is.exact; found = found-grows is.over (shown version.id) name version.tree version.found is.found }

-- ---- further versions

version-below : (next : ℕ) (needs : List (List ℕ)) (are : List Need) (name : List ℕ) → AllByRecursion (IsNeedBelow next) are → IfSome (need_in needs are name) (IsNeedBelow next)
version-below next [] are name all = tt
version-below next (need ∷ needs) [] name all = tt
version-below next (need ∷ needs) (is ∷ rest) name all = by (bytes_eq name need) (version-below next needs rest name all.1)
  where
    by : (b : Bool) → IfSome (need_in needs rest name) (IsNeedBelow next) → IfSome (cond b (Some is) (need_in needs rest name)) (IsNeedBelow next)
    by true below = all.0
    by false below = below

-- one that is below a number is below a greater one
need-below : (next after : ℕ) → next ≤ after → (need : Need) → IsNeedBelow next need → IsNeedBelow after need
need-below next after more_than need_as.Unknown less = tt
need-below next after more_than need_as.Cyclic less = tt
need-below next after more_than need_as.Refused less = tt
need-below next after more_than (need_as.Version id) less = omega (arith, less, more_than)

-- and so are all of them
pub needs-below : (next after : ℕ) → next ≤ after → (needs : List Need) → AllByRecursion (IsNeedBelow next) needs → AllByRecursion (IsNeedBelow after) needs
needs-below next after more_than [] all = tt
needs-below next after more_than (need ∷ needs) all = (need-below next after more_than need all.0, needs-below next after more_than needs all.1)

-- what is kept under numbers below the next one
abbrev pub AgreeBelow : ℕ → (ℕ → Option Shown) → (ℕ → Option Shown) → Type 0
AgreeBelow next shown more = (id : ℕ) → id < next → more id ≡ shown id

module _ (shown more : ℕ → Option Shown) (next : ℕ) (agree : AgreeBelow next shown more) where
  over-by : (found : Option Need) → IfSome found (IsNeedBelow next) → shown_need shown found ≡ shown_need more found
  over-by None less = refl
  over-by (Some need_as.Unknown) less = refl
  over-by (Some need_as.Cyclic) less = refl
  over-by (Some need_as.Refused) less = refl
  over-by (Some (need_as.Version id)) less = sym (agree id less)

  -- the same is kept of the needs of a version
  pub shown-same : (version : Version) → AllByRecursion (IsNeedBelow next) version.needs → (name : List ℕ) → shown_over shown version name ≡ shown_over more version name
  shown-same version all name = over-by (need_in (needs_of version.tree) version.needs name) (version-below next (needs_of version.tree) version.needs name all)

  pub version-shown : (known : LevelTables) (after : ℕ) → next ≤ after → (name : List ℕ) (version : Version) → IsVersion known shown next name version → IsVersion known more after name version
  version-shown known after more_than name version is = record {
    needs = needs-below next after more_than version.needs is.needs;
    itself = let less : version.id < next = is.itself in omega (arith, less, more_than);
    over = is.over;
    shows = λ other. is.shows other ∙ shown-same version is.needs other;
    lacks = is.lacks;
    exact = is.exact;
    found = subst (λ own. IsFoundOver known is.over own name version.tree version.found) (sym (agree version.id is.itself)) is.found;
  }

  pub versions-shown : (known : LevelTables) (after : ℕ) → next ≤ after → (versions : List (List ℕ × Version)) → AreVersions known shown next versions → AreVersions known more after versions
  versions-shown known after more_than versions are name version there = version-shown known after more_than name version (are name version there)

-- what is kept under the next number changes nothing before it
pub shown-below : (shown : ℕ → Option Shown) (next : ℕ) (own : Option Shown) → AgreeBelow next shown (shown_with shown next own)
shown-below shown next own id less = by (nat_eq id next) refl
  where
    by : (b : Bool) → nat_eq id next ≡ b → shown_with shown next own id ≡ shown id
    by true same = let is : id ≡ next = eqb-true id next same in absurd (omega (arith, less, is))
    by false apart = ap (λ b. cond b own (shown id)) apart

pub shown-here : (shown : ℕ → Option Shown) (next : ℕ) (own : Option Shown) → shown_with shown next own next ≡ own
shown-here shown next own = ap (λ b. cond b own (shown next)) (eq-eqb next next refl)

-- ---- the same version

tree-some : (a b : ModuleUnits) → ◌≡◌ {A = Front} (Tree a) (Tree b) → a ≡ b
tree-some a b e = cc

-- nodes, and the face that is like that of the module
record IsNoded (known : LevelTables) (over : Over) (name source : List ℕ) (units : ModuleUnits) (number : ℕ) : Type 0 where
  made : IsMadeWith known over name source units
  like : IsFaceLike known.tables.state.flat (faces_of known number) (face_of (outsides_over over) source units made.last)

-- trees of one text under one name
pub module-same : HasNoOther → (name : List ℕ) (one two : ModuleTree) → IsRead name one → IsRead name two → one.source ≡ two.source → module_of one ≡ module_of two
module-same no_other name one two first second same =
    let bytes : first.0 ≡ second.0 = sym first.1.source ∙ (same ∙ second.1.source) in
    tree-some (module_of one) (module_of two) (no_other name second.0 (Tree (module_of one)) (Tree (module_of two)) (subst (λ b. IsFront name b (Tree (module_of one))) bytes first.1.front) second.1.front)

pub needs-same : (one two : ModuleTree) → one.source ≡ two.source → module_of one ≡ module_of two → needs_of one ≡ needs_of two
needs-same one two source units = λ i. map (spelled (source i)) (imports_of (source i) (units i))

-- it was found of the other tree too
pub found-same : (known : LevelTables) (over : Over) (own : Option Shown) (name : List ℕ) (one two : ModuleTree) (found : Found) → IsRead name two → one.source ≡ two.source → module_of one ≡ module_of two → IsFoundOver known over own name one found → IsFoundOver known over own name two found
found-same known over own name one two found read source units is = record {
  read = read;
  viewed = is.viewed;
  says = subst (λ (l : Leveled). Matches l.faults l.outside.view found.outcome) leveled-same is.says;
  numbered = is.numbered;
  names = is.names ∙ (λ i. record { uses = (leveled-same i).uses; decls = (leveled-same i).decls });
  made = λ none.
      subst (λ s. IsMadeWith known over name s (module_of two)) source
      (subst (λ u. IsMadeWith known over name one.source u) units (is.made ((λ i. named_faults (given_over over) (source i) (units i)) ∙ none)));
  accepted = λ number at. by number (is.accepted number at);
}
  where
    leveled-same : leveled_over over one ≡ leveled_over over two
    leveled-same = λ i. leveled_by (given_over over) (source i) (units i)

    by : (number : ℕ) → IsAcceptedOver known over own name one found number → IsAcceptedOver known over own name two found number
    by number a =
        let moved : IsNoded known over name two.source (module_of two) number =
        subst (λ s. IsNoded known over name s (module_of two) number) source
        (subst (λ u. IsNoded known over name one.source u number) units (record { made = a.made; like = a.like })) in
        record {
          there = a.there;
          shown = a.shown;
          is = a.is;
          number_is = a.number_is;
          face_is = a.face_is;
          held = a.held;
          made = moved.made;
          like = moved.like;
        }

-- a copy of a version is one
pub version-copy : (known : LevelTables) (shown : ℕ → Option Shown) (next : ℕ) (name : List ℕ) (version copy : Version) → IsSameVersion version copy → IsVersion known shown next name version → IsVersion known shown next name copy
version-copy known shown next name version copy same is = record {
  needs = subst (AllByRecursion (IsNeedBelow next)) (sym same.needs) is.needs;
  itself = subst (λ id. id < next) (sym same.id) is.itself;
  over = is.over;
  shows = λ other. is.shows other ∙ (λ i. shown_need shown (need_in (needs_of (sym same.tree i)) (sym same.needs i) other));
  lacks = λ other. is.lacks other ∙ (λ i. lack_need (need_in (needs_of (sym same.tree i)) (sym same.needs i) other));
  exact = exact-copy version.found.outcome copy.found.outcome same.found.face is.exact;
  found =
      subst (λ own. IsFoundOver known is.over (shown own) name copy.tree copy.found) (sym same.id)
      (subst (λ tree. IsFoundOver known is.over (shown version.id) name tree copy.found) (sym same.tree)
      (found-copy known is.over (shown version.id) name version.tree version.found copy.found same.found is.found));
}
