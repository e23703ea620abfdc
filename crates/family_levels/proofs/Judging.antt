-- What is found of the next module is what the function of the texts gives, and the modules so far stay known with it.
use mathlib.Core.Path.{fun_ext}
use Rattle.indexmap.specs.IndexMap.{IndexMap}
use Rattle.std.proofs.Common.{◌≡◌, ℕ, arith, true, List, [], ◌∷◌, ◌++◌, ◌⊎◌, inl, inr, Option, Some, None, is_some, refl, sym, ap, subst, ◌∙◌, map}
use Rattle.std.specs.Prelude.{◌<◌, Contains, IfSome}
use Rattle.std.specs.Str.{bytes_eq}
use Rattle.tla_model.specs.declared.Diagnostic.{Diagnostic}
use Rattle.tla_model.specs.declared.entity.Level.{Level}
use Rattle.tla_model.specs.declared.entity.Use.{Use}
use Rattle.tla_tree.specs.declared.unit.ModuleTree.{ModuleTree}
use Rattle.unit_grammar.specs.UnitNodes.{module_of}
use Rattle.unit_grammar.specs.Units.{ModuleUnits}
use Rattle.front_laws.specs.Fronts.{IsFront, Tree}
use Rattle.module_model.specs.Bindings.{AreInOrder, faults}
use Rattle.module_model.specs.Exports.{ModuleView, face_outside}
use Rattle.module_model.specs.Imports.{Imports, import_of}
use Rattle.module_model.specs.Modules.{text_of}
use Rattle.module_model.specs.Resolution.{findings, outside_in}
use Rattle.arity_rules.specs.Arities.{arity_faults}
use Rattle.module_facts.specs.Checks as names
use Rattle.module_facts.specs.Checks.{CheckedModule, facts_of, facts_told, files_given, given_in, name_faults, or_others}
use Rattle.module_model.specs.declared.face.Face.{Face}
use Rattle.fact_values.specs.Names.{Texts}
use Rattle.flattened_trees.specs.Answers.{deep_answers, level_answers}
use Rattle.module_facts.specs.Ordered.{in_order}
use Rattle.module_facts.proofs.Checked.{IsChecked, facts-checked}
use Rattle.module_facts.proofs.Inserting.{in-order}
use Rattle.kind_text.specs.FlatModule.{FlatModule, IsOrdered}
use Rattle.tree_kinds.specs.Standing.{Outside}
use Rattle.tree_kinds.specs.TreeLevels.{LevelFinding}
use Rattle.module_kinds.specs.ModuleKinds.{depth_faults, kind_faults, level_faults, level_findings, level_of, or_levels, outside as module_outside, too_deep}
use Rattle.flat_trees.specs.Instances.{symbols_of}
use Rattle.flat_kinds.specs.Declarations.{HasPlaces}
use Rattle.flattened_trees.specs.Leads.{FlatFace}
use Rattle.flattened_units.specs.Units.{no_face}
use Rattle.written_trees.specs.Leading.{face_in}
use Rattle.leveled_modules.specs.Leveled.{file_faces}
use Rattle.leveled_modules.specs.Leveled.{face_at}
use Rattle.leveled_modules.specs.Leveled.{ModuleLevels}
use Rattle.leveled_modules.specs.Leveled.{LevelTables}
use Rattle.leveled_modules.specs.Leveled.{AreFilesOf, AreLevelsOf, IsModuleLeveled, faces_by}
use Rattle.alike_modules.specs.Known.{IsForeignTo, IsKnownFile, IsMadeOver, Knowledge, face_of, with_own_knowledge}
use Rattle.family_facts.specs.Facts.{texts_of}
use Rattle.family_facts.specs.Family.{Member, is_there}
use Rattle.family_facts.proofs.Members.{member-there}
use Rattle.family_tables.specs.Outcomes.{ImportsOnly, IsMember, IsNeedTold, Matches}
use Rattle.family_tables.specs.Tables.{entry_of}
use Rattle.family_tables.specs.declared.order.Plan.{Plan}
use Rattle.family_tables.specs.declared.outcome.Outcome.{Outcome}
use Rattle.family_tables.specs.declared.outcome.Outcome.TheVariants as outcome
use Rattle.family_tables.specs.declared.reading.Reading.TheVariants as reading
use Rattle.leveled_facts.specs.Families.{declares, leveled}
use Rattle.leveled_facts.specs.Modules.{Leveled, Status, all_faults, import_status, leveled_by, leveled_use, levels_by, outside_by}
use Rattle.family_levels.specs.declared.«module».Found.{Found}
use Rattle.family_levels.specs.Judging.{HasFace, HasFaults, IsFoundAccepted, IsFoundBy, IsFoundFrom, IsFoundRefused, IsJudged, IsJudgedFrom, IsLeveledOver, level_at, names_of, with_level}
use Rattle.family_levels.specs.Leveling.{AreNumbers, HasNumber, IsNext, IsReady, face_count, faces_of, names_on}
use Rattle.family_levels.specs.Versions.{IsFaceLike, IsMadeWith, Over, given_over, named_faults, numbers_over, outsides_over}
use Rattle.family_levels.specs.Numbers.{number_by}
use Rattle.family_levels.specs.Laws.{FamilyLaws, KnownLaws}
use Rattle.family_levels.proofs.Unleveled.{plain-uses, unleveled}
use Rattle.family_levels.proofs.Statuses.{files-given, IsFileAbsent, IsFileThere, file-is, found-given, given as given_to, names-given, views-given}

-- ---- faults

-- faults in order are none where there are none
none-ordered : FamilyLaws → (all : List Diagnostic) → in_order all ≡ [] → all ≡ []
none-ordered laws all none = laws.none all (subst (AreInOrder all) none (in-order all))

-- all faults of names are all faults, where there are some
others-or : (all more : List Diagnostic) (fault : Diagnostic) (rest : List Diagnostic) → in_order all ≡ fault ∷ rest → or_others all more ≡ all
others-or [] more fault rest some = cc
others-or (one ∷ all) more fault rest some = refl

-- of faults of names, those of imports and the others
record AreNone (imports others : List Diagnostic) : Type 0 where
  first : imports ≡ []
  second : others ≡ []

none-both : (a b : List Diagnostic) → or_others a b ≡ [] → AreNone a b
none-both [] b none = record { first = refl; second = none }
none-both (fault ∷ a) b none = cc

none-left : (a b : List Diagnostic) → a ++ b ≡ [] → AreNone a b
none-left [] b none = record { first = refl; second = none }
none-left (fault ∷ a) b none = cc

-- uses get the levels that are found of them
uses-leveled : {S : Type 0} (levels : IndexMap ℕ Level S) (found : List LevelFinding) → ((start : ℕ) → level_at levels start ≡ level_of found start) → (uses : List Use) → map (with_level levels) uses ≡ map (leveled_use found) uses
uses-leveled levels found are uses = ap (λ f. map f uses) (fun_ext (λ u i. record { name = u.name; «module» = u.«module»; place = u.place; level = are u.name.start i }))

-- an outcome with these faults says so
pub refused-says : (Are : List Diagnostic → Type 0) (o : outcome.the_data) (faults : List Diagnostic) (view : ModuleView) (fault : Diagnostic) (rest : List Diagnostic) → ((all : List Diagnostic) → Are all → all ≡ faults) → faults ≡ fault ∷ rest → HasFaults Are o → Matches faults view o
refused-says Are (outcome.Refused all) faults view fault rest same some has = (same all has, λ none. let never : fault ∷ rest ≡ [] = sym some ∙ none in cc)
refused-says Are (outcome.Accepted face) faults view fault rest same some has = absurd has

pub refused-number : (Are : List Diagnostic → Type 0) (o : outcome.the_data) (number : Option ℕ) → HasFaults Are o → number ≡ None → HasNumber o number
refused-number Are (outcome.Refused all) number has none = none
refused-number Are (outcome.Accepted face) number has none = absurd has

accepted-says : (face : Face) (o : outcome.the_data) (faults : List Diagnostic) (view : ModuleView) → HasFace face o → faults ≡ [] → face_outside face ≡ view → Matches faults view o
accepted-says face (outcome.Refused all) faults view has none is = absurd has
accepted-says face (outcome.Accepted shared) faults view has none is = (none, ap face_outside has ∙ is)

accepted-number : (face : Face) (o : outcome.the_data) (at : ℕ) (number : Option ℕ) → HasFace face o → number ≡ Some at → HasNumber o number
accepted-number face (outcome.Refused all) at number has is = absurd has
accepted-number face (outcome.Accepted shared) at number has is = ap is_some is

some-same : (a b : ℕ) → ◌≡◌ {A = Option ℕ} (Some a) (Some b) → a ≡ b
some-same a b same = cc

-- an accepted module has the face that was checked, and nodes over what modules are by their versions
pub record IsMadeAs (known : LevelTables) (over : Over) (name source : List ℕ) (units : ModuleUnits) (found : Found) (face : Face) (number : ℕ) : Type 0 where
  pub has : HasFace face found.outcome
  pub made : IsMadeWith known over name source units
  pub like : IsFaceLike known.tables.state.flat (faces_of known number) (face_of (outsides_over over) source units made.last)

module _ (known_laws : KnownLaws) (laws : FamilyLaws) (family : List Member) (plan : Plan) (outcomes : List (List ℕ × Outcome)) (numbers : List (List ℕ × ℕ)) (old new : LevelTables) (name : List ℕ) (ready : IsReady family plan outcomes numbers old name) (unfound : entry_of outcomes name ≡ None)
    (numbered : AreNumbers old numbers) (was_ordered : IsOrdered old.tables.state.flat) (is_ordered : IsOrdered new.tables.state.flat) (tree : ModuleTree) (needs : List (List ℕ)) (member : IsMember family name (reading.Tree tree) needs) (imports : Imports)
    (told : (need : List ℕ) → Contains needs need → IsNeedTold ready.entries outcomes name need (given_in imports need)) (only : ImportsOnly needs imports) (files : List ℕ → Option ℕ) (are : (other : List ℕ) → files other ≡ number_by (import_of imports other) (entry_of numbers other)) (found : Found)
    (checked : CheckedModule) (facts : facts_told checked ≡ facts_of (given_in imports) tree.source (module_of tree)) where
  abbrev source : List ℕ
  source = tree.source

  abbrev units : ModuleUnits
  units = module_of tree

  abbrev texts : Texts
  texts = texts_of family

  -- what modules are to this one
  abbrev given : List ℕ → Status
  given = given_to family plan outcomes numbers old name ready tree needs member imports told only

  abbrev outs : List ℕ → Outside
  outs other = outside_by (given other)

  abbrev faces : List ℕ → FlatFace
  faces = faces_by old files

  abbrev knowledge : Knowledge
  knowledge = ready.leveled_so.knowledge

  is : leveled texts name ≡ leveled_by given source units
  is = found-given family plan outcomes numbers old name ready tree needs member imports told only laws

  names-are : (λ other. import_status (given other)) ≡ given_in imports
  names-are = names-given family plan outcomes numbers old name ready tree needs member imports told only

  views-are : (λ other. (outs other).view) ≡ files_given (given_in imports)
  views-are = views-given family plan outcomes numbers old name ready tree needs member imports told only

  told-facts : IsChecked (given_in imports) source units checked
  told-facts = facts-checked (given_in imports) source units checked facts

  -- the faults of imports, or else of names and arities
  abbrev named : List Diagnostic
  named = names.all_faults (λ other. import_status (given other)) source units

  faults-are : checked.faults ≡ in_order named
  faults-are = told-facts.faults ∙ ap (λ g. in_order (names.all_faults g source units)) (sym names-are)

  decls-are : checked.decls ≡ names.all_decls (λ other. import_status (given other)) source units
  decls-are = told-facts.decls ∙ ap (λ g. names.all_decls g source units) (sym names-are)

  uses-are : checked.uses ≡ names.all_uses (λ other. import_status (given other)) source units
  uses-are = told-facts.uses ∙ ap (λ g. names.all_uses g source units) (sym names-are)

  title-is : (text_of source units).file ≡ name
  title-is = member.is.named

  there : is_there family name ≡ true
  there = member-there family name member.member member.there member.named

  -- the names of the module, where it has faults
  names-refused : (fault : Diagnostic) (rest : List Diagnostic) → in_order (all_faults given source units) ≡ fault ∷ rest → names_of checked ≡ names_on texts name
  names-refused fault rest some =
      let own : List Use = names.all_uses (λ other. import_status (given other)) source units in
      let uses : checked.uses ≡ (leveled texts name).uses =
      uses-are ∙ (sym (plain-uses (λ other. import_status (given other)) source units)
      ∙ (ap (λ found. map (leveled_use found) own) (sym (unleveled given source units (all_faults given source units) fault rest some)) ∙ ap (λ (l : Leveled). l.uses) (sym is))) in
      let decls : checked.decls ≡ (leveled texts name).decls = decls-are ∙ ap (λ (l : Leveled). l.decls) (sym is) in
      λ i. record { uses = uses i; decls = decls i }

  -- ---- with faults of names

  refused-next : (fault : Diagnostic) (rest : List Diagnostic) → checked.faults ≡ fault ∷ rest → IsFoundRefused (λ all. all ≡ fault ∷ rest) (names_of checked) found → new ≡ old → IsNext family outcomes numbers name new found
  refused-next fault rest some refused same =
      let listed : in_order named ≡ fault ∷ rest = sym faults-are ∙ some in
      let all : (leveled texts name).faults ≡ fault ∷ rest = ap (λ (l : Leveled). l.faults) is ∙ (ap in_order (others-or named (kind_faults outs source units) fault rest listed) ∙ listed) in
      record {
        there = there;
        says = refused-says (λ all. all ≡ fault ∷ rest) found.outcome (leveled texts name).faults (leveled texts name).outside.view fault rest (λ these e. e ∙ sym all) all refused.outcome;
        numbered = refused-number (λ all. all ≡ fault ∷ rest) found.outcome found.number refused.outcome refused.number;
        names = refused.names ∙ names-refused fault rest (ap (λ (l : Leveled). l.faults) (sym is) ∙ all);
        knowledge = knowledge;
        plain = ready.leveled_so.plain;
        others = λ other number at. subst (λ (t : LevelTables). IsKnownFile (declares texts) t.tables.state.flat knowledge (faces_of t number) (leveled texts other).outside) (sym same) (ready.leveled_so.files other number at);
        itself = λ number at. let never : None ≡ Some number = sym refused.number ∙ at in cc;
        foreign = λ title number later apart at. let never : None ≡ Some number = sym refused.number ∙ at in cc;
      }

  -- ---- without

  module _ (accepted : checked.faults ≡ []) (levels : ModuleLevels) (over : IsLeveledOver tree imports files old new levels) (by : IsFoundBy checked levels found) where
    none-named : named ≡ []
    none-named = none-ordered laws named (sym faults-are ∙ accepted)

    all-faults : all_faults given source units ≡ kind_faults outs source units
    all-faults = ap (λ fs. or_others fs (kind_faults outs source units)) none-named

    leveled-faults : (leveled texts name).faults ≡ in_order (kind_faults outs source units)
    leveled-faults = ap (λ (l : Leveled). l.faults) is ∙ ap in_order all-faults

    -- no fault of names and arities
    none-of-names : names.name_faults (findings (λ other. (outs other).view) source units) units ≡ []
    none-of-names =
        ap (λ f. name_faults (findings f source units) units) (views-are ∙ ap files_given (sym names-are))
        ∙ (none-both (names.import_faults (λ other. import_status (given other)) source units) (name_faults (findings (files_given (λ other. import_status (given other))) source units) units) none-named).second

    both-none : AreNone (faults (findings (λ other. (outs other).view) source units)) (arity_faults (findings (λ other. (outs other).view) source units) units.units)
    both-none = none-left (faults (findings (λ other. (outs other).view) source units)) (arity_faults (findings (λ other. (outs other).view) source units) units.units) none-of-names

    -- ---- files

    abbrev Known : FlatModule → (ℕ → FlatFace) → Type 0
    Known flat at = (other : List ℕ) → IsKnownFile (declares texts) flat knowledge (file_faces at files other) (outs other)

    face-there : (at : ℕ → FlatFace) (other : List ℕ) (number : ℕ) → files other ≡ Some number → file_faces at files other ≡ at number
    face-there at other number e = ap (face_at at) e

    face-absent : (at : ℕ → FlatFace) (other : List ℕ) → files other ≡ None → file_faces at files other ≡ no_face
    face-absent at other e = ap (face_at at) e

    files-known : Known old.tables.state.flat (faces_of old)
    files-known other = by_file (file-is family plan outcomes numbers old name ready tree needs member imports told only other)
      where
        by_file : IsFileThere family plan outcomes numbers old name ready tree needs member imports told only other (number_by (import_of imports other) (entry_of numbers other)) ⊎ IsFileAbsent family plan outcomes numbers old name ready tree needs member imports told only other (number_by (import_of imports other) (entry_of numbers other))
            → IsKnownFile (declares texts) old.tables.state.flat knowledge (faces other) (outs other)
        by_file (inl file) =
            subst (λ f. IsKnownFile (declares texts) old.tables.state.flat knowledge f (outs other)) (sym (face-there (faces_of old) other file.at (are other ∙ file.numbered)))
            (subst (λ o. IsKnownFile (declares texts) old.tables.state.flat knowledge (faces_of old file.at) o) (sym file.outside) (ready.leveled_so.files other file.at file.entry))
        by_file (inr file) =
            subst (λ f. IsKnownFile (declares texts) old.tables.state.flat knowledge f (outs other)) (sym (face-absent (faces_of old) other (are other ∙ file.numbered)))
            (subst (λ o. IsKnownFile (declares texts) old.tables.state.flat knowledge no_face o) (sym file.outside) (known_laws.nothing (declares texts) old.tables.state.flat knowledge))

    files-foreign : (title : List ℕ) → entry_of outcomes title ≡ None → (other : List ℕ) → IsForeignTo title (outs other)
    files-foreign title later other = by_file (file-is family plan outcomes numbers old name ready tree needs member imports told only other)
      where
        by_file : IsFileThere family plan outcomes numbers old name ready tree needs member imports told only other (number_by (import_of imports other) (entry_of numbers other)) ⊎ IsFileAbsent family plan outcomes numbers old name ready tree needs member imports told only other (number_by (import_of imports other) (entry_of numbers other))
            → IsForeignTo title (outs other)
        by_file (inl file) = subst (IsForeignTo title) (sym file.outside) (ready.leveled_so.foreign title other file.at later file.entry)
        by_file (inr file) = subst (IsForeignTo title) (sym file.outside) (known_laws.foreign_nothing title)

    are-files : AreFilesOf faces imports outs
    are-files = record {
      names = views-are ∙ sym (files-given imports);
      constant = λ other. (files-known other).good.reads.constant;
    }

    made : IsModuleLeveled faces outs source units old new levels
    made = over.over outs are-files

    is-made : IsMadeOver (declares texts) new.tables.state.flat knowledge faces outs name source units (symbols_of (module_outside outs source units)) made.last made.asked
    is-made = record {
      made = made.made;
      ordered = is_ordered;
      known = record { each = λ other. known_laws.grows (declares texts) old.tables.state.flat new.tables.state.flat knowledge (faces other) (outs other) made.extends was_ordered (files-known other); plain = ready.leveled_so.plain };
      foreign = λ other. subst (λ t. IsForeignTo t (outs other)) (sym title-is) (files-foreign name unfound other);
      faultless = record {
        front = subst (λ b. IsFront name b (Tree units)) (sym member.is.source) member.is.front;
        names = both-none.first;
        arities = both-none.second;
        places = subst (λ b. HasPlaces (declares texts) b units) (sym member.is.source) (laws.places family member.member units ready.distinct member.there (subst (λ n. IsFront n member.member.bytes (Tree units)) (sym member.named) member.is.front));
      };
      same = refl;
    }

    levels-answered : level_answers new.tables.state.flat made.asked ≡ level_findings outs source units
    levels-answered = known_laws.levels (declares texts) new.tables.state.flat knowledge faces outs name source units (symbols_of (module_outside outs source units)) made.last made.asked is-made

    depths-answered : deep_answers new.tables.state.flat made.asked ≡ too_deep outs source units
    depths-answered = known_laws.depths (declares texts) new.tables.state.flat knowledge faces outs name source units (symbols_of (module_outside outs source units)) made.last made.asked is-made

    -- faults and levels of uses are those of the module
    are-levels : AreLevelsOf outs source units levels
    are-levels = record {
      faults = made.answered.faults ∙ (λ i. or_levels (depth_faults (depths-answered i)) (level_faults (levels-answered i)));
      levels = λ none start. made.answered.levels none start ∙ ap (λ found. level_of found start) levels-answered;
    }

    -- the uses of the module with their levels
    shown : levels.faults ≡ [] → map (with_level levels.levels) checked.uses ≡ (leveled texts name).uses
    shown none =
        ap (map (with_level levels.levels)) uses-are
        ∙ (uses-leveled levels.levels (level_findings outs source units) (are-levels.levels none) (names.all_uses (λ other. import_status (given other)) source units)
        ∙ (ap (λ fs. map (leveled_use (levels_by given source units fs)) (names.all_uses (λ other. import_status (given other)) source units)) (sym (all-faults ∙ (sym are-levels.faults ∙ none)))
        ∙ ap (λ (l : Leveled). l.uses) (sym is)))

    -- modules so far, in what there is now
    still-known : (other : List ℕ) (number : ℕ) → entry_of numbers other ≡ Some number → IsKnownFile (declares texts) new.tables.state.flat knowledge (faces_of new number) (leveled texts other).outside
    still-known other number at =
        subst (λ f. IsKnownFile (declares texts) new.tables.state.flat knowledge f (leveled texts other).outside) (sym (made.faces number (numbered other number at)))
        (known_laws.grows (declares texts) old.tables.state.flat new.tables.state.flat knowledge (faces_of old number) (leveled texts other).outside made.extends was_ordered (ready.leveled_so.files other number at))

    outside-is : (leveled texts name).outside ≡ module_outside outs source units
    outside-is = ap (λ (l : Leveled). l.outside) is

    refused-levels : (fault : Diagnostic) (rest : List Diagnostic) → levels.faults ≡ fault ∷ rest → IsFoundRefused (AreInOrder (fault ∷ rest)) (names_of checked) found → IsNext family outcomes numbers name new found
    refused-levels fault rest some refused = by_all (in_order (fault ∷ rest)) refl
      where
        all : (leveled texts name).faults ≡ in_order (fault ∷ rest)
        all = leveled-faults ∙ ap in_order (sym are-levels.faults ∙ some)

        by_all : (these : List Diagnostic) → in_order (fault ∷ rest) ≡ these → IsNext family outcomes numbers name new found
        by_all [] e = let never : fault ∷ rest ≡ [] = none-ordered laws (fault ∷ rest) e in cc
        by_all (first ∷ more) e = record {
          there = there;
          says = refused-says (AreInOrder (fault ∷ rest)) found.outcome (leveled texts name).faults (leveled texts name).outside.view first more (λ these ordered. laws.one_order (fault ∷ rest) these ordered ∙ sym all) (all ∙ e) refused.outcome;
          numbered = refused-number (AreInOrder (fault ∷ rest)) found.outcome found.number refused.outcome refused.number;
          names = refused.names ∙ names-refused first more (ap (λ (l : Leveled). l.faults) (sym is) ∙ (all ∙ e));
          knowledge = knowledge;
          plain = ready.leveled_so.plain;
          others = still-known;
          itself = λ number at. let never : None ≡ Some number = sym refused.number ∙ at in cc;
          foreign = λ title number later apart at. let never : None ≡ Some number = sym refused.number ∙ at in cc;
        }

    accepted-levels : levels.faults ≡ [] → IsFoundAccepted checked levels found → IsNext family outcomes numbers name new found
    accepted-levels none accepts =
        let all : (leveled texts name).faults ≡ [] = leveled-faults ∙ ap in_order (sym are-levels.faults ∙ none) in
        let own : Knowledge = with_own_knowledge (declares texts) outs source units knowledge in
        let view : face_outside checked.face ≡ (leveled texts name).outside.view =
        told-facts.outside accepted ∙ (ap (λ f. outside_in f source units) (sym views-are) ∙ ap (λ (o : Outside). o.view) (sym outside-is)) in
        record {
          there = there;
          says = accepted-says checked.face found.outcome (leveled texts name).faults (leveled texts name).outside.view accepts.outcome all view;
          numbered = accepted-number checked.face found.outcome levels.face found.number accepts.outcome accepts.number;
          names =
              let uses = shown none in
              let decls : checked.decls ≡ (leveled texts name).decls = decls-are ∙ ap (λ (l : Leveled). l.decls) (sym is) in
              accepts.names ∙ (λ i. record { uses = uses i; decls = decls i });
          knowledge = own;
          plain = known_laws.plain (declares texts) new.tables.state.flat knowledge faces outs name source units (symbols_of (module_outside outs source units)) made.last made.asked is-made;
          others = λ other number at.
              known_laws.others (declares texts) new.tables.state.flat knowledge outs source units (faces_of new number) (leveled texts other).outside (still-known other number at)
              (subst (λ t. IsForeignTo t (leveled texts other).outside) (sym title-is) (ready.leveled_so.foreign name other number unfound at));
          itself = λ number at.
              let same : levels.face ≡ number = some-same levels.face number (sym accepts.number ∙ at) in
              subst (λ o. IsKnownFile (declares texts) new.tables.state.flat own (faces_of new number) o) (sym outside-is)
              (subst (λ f. IsKnownFile (declares texts) new.tables.state.flat own f (module_outside outs source units)) (sym made.is ∙ ap (faces_of new) same)
              (known_laws.itself (declares texts) new.tables.state.flat knowledge faces outs name source units (symbols_of (module_outside outs source units)) made.last made.asked is-made));
          foreign = λ title number later apart at.
              subst (IsForeignTo title) (sym outside-is)
              (known_laws.foreign outs source title units (files-foreign title later) (ap (λ t. bytes_eq t title) title-is ∙ apart));
        }

    -- its nodes are over what modules are by their versions
    module _ (over_all : Over) (same : given ≡ given_over over_all) (numbers_same : files ≡ numbers_over over_all) (below : (other : List ℕ) → IfSome (files other) (λ number. number < face_count old)) where
      still-below : (n : Option ℕ) → IfSome n (λ number. number < face_count old) → IfSome n (λ number. number < face_count new)
      still-below None less = tt
      still-below (Some at) less = let more : face_count old < face_count new = made.more_faces in omega (arith, less, more)

      kept-face : (found_number : Option ℕ) → IfSome found_number (λ number. number < face_count old) → face_at (faces_of old) found_number ≡ face_at (faces_of new) found_number
      kept-face None less = refl
      kept-face (Some at) less = sym (made.faces at less)

      faces-same : faces ≡ file_faces (faces_of new) (numbers_over over_all)
      faces-same = fun_ext (λ other. kept-face (files other) (below other) ∙ ap (λ fs. face_at (faces_of new) (fs other)) numbers_same)

      made-with : IsMadeWith new over_all name source units
      made-with = record {
        last = made.last;
        asked = made.asked;
        below = λ other. subst (λ (fs : List ℕ → Option ℕ). IfSome (fs other) (λ n. n < face_count new)) numbers_same (still-below (files other) (below other));
        declares = declares texts;
        knowledge = knowledge;
        made =
            subst (λ (g : List ℕ → Status). IsMadeOver (declares texts) new.tables.state.flat knowledge (file_faces (faces_of new) (numbers_over over_all)) (λ other. outside_by (g other)) name source units
            (symbols_of (module_outside (λ other. outside_by (g other)) source units)) made.last made.asked) same
            (subst (λ (f : List ℕ → FlatFace). IsMadeOver (declares texts) new.tables.state.flat knowledge f outs name source units (symbols_of (module_outside outs source units)) made.last made.asked) faces-same is-made);
      }

      -- its face is known, and is its own
      like-with : IsFaceLike new.tables.state.flat (faces_of new levels.face) (face_of (outsides_over over_all) source units made.last)
      like-with =
          let own : Knowledge = with_own_knowledge (declares texts) outs source units knowledge in
          let itself : faces_of new levels.face ≡ face_of (outsides_over over_all) source units made.last =
          subst (λ (g : List ℕ → Status). faces_of new levels.face ≡ face_of (λ other. outside_by (g other)) source units made.last) same made.is in
          record {
            declares = declares texts;
            knowledge = own;
            file = module_outside outs source units;
            known =
                subst (λ f. IsKnownFile (declares texts) new.tables.state.flat own f (module_outside outs source units)) (sym made.is)
                (known_laws.itself (declares texts) new.tables.state.flat knowledge faces outs name source units (symbols_of (module_outside outs source units)) made.last made.asked is-made);
            alike = λ more extends. ap (face_in more) itself;
          }

    leveled-next : (these : List Diagnostic) → levels.faults ≡ these → IsFoundFrom checked levels these found → IsNext family outcomes numbers name new found
    leveled-next [] e so = accepted-levels e so
    leveled-next (fault ∷ rest) e so = refused-levels fault rest e so

  judged-next : (these : List Diagnostic) → checked.faults ≡ these → IsJudgedFrom tree imports files old new checked these found → IsNext family outcomes numbers name new found
  judged-next [] e so = leveled-next e so.0 so.1 so.2 so.0.faults refl so.2
  judged-next (fault ∷ rest) e so = refused-next fault rest e so.0 so.1

  module _ (over_all : Over) (same : given ≡ given_over over_all) (numbers_same : files ≡ numbers_over over_all) (below : (other : List ℕ) → IfSome (files other) (λ number. number < face_count old)) where
    -- where names and arities have no faults, it has nodes
    made-named : (these : List Diagnostic) → checked.faults ≡ these → IsJudgedFrom tree imports files old new checked these found → named_faults (given_over over_all) source units ≡ [] → IsMadeWith new over_all name source units
    made-named [] e so none = made-with e so.0 so.1 so.2 over_all same numbers_same below
    made-named (fault ∷ rest) e so none =
        let named_none : named ≡ [] = ap (λ (g : List ℕ → Status). named_faults g source units) same ∙ none in
        let never : fault ∷ rest ≡ [] = sym e ∙ (faults-are ∙ ap in_order named_none) in cc

    module _ (number : ℕ) (at : found.number ≡ Some number) where
      no-number : found.number ≡ None → ⊥
      no-number none = let never : None ≡ Some number = sym none ∙ at in cc

      made-leveled : (accepted : checked.faults ≡ []) (levels : ModuleLevels) → IsLeveledOver tree imports files old new levels → IsFoundBy checked levels found → (these : List Diagnostic) → levels.faults ≡ these → IsFoundFrom checked levels these found → IsMadeAs new over_all name source units found checked.face number
      unfolding made-with made
      made-leveled accepted levels over by [] e so = record {
        has = so.outcome;
        made = made-with accepted levels over by over_all same numbers_same below;
        like =
            subst (λ n. IsFaceLike new.tables.state.flat (faces_of new n) (face_of (outsides_over over_all) source units (made accepted levels over by).last)) (some-same levels.face number (sym so.number ∙ at))
            (like-with accepted levels over by over_all same numbers_same below);
      }
      made-leveled accepted levels over by (fault ∷ rest) e so = absurd (no-number so.number)

      made-judged : (these : List Diagnostic) → checked.faults ≡ these → IsJudgedFrom tree imports files old new checked these found → IsMadeAs new over_all name source units found checked.face number
      made-judged [] e so = made-leveled e so.0 so.1 so.2 so.0.faults refl so.2
      made-judged (fault ∷ rest) e so = absurd (no-number so.0.number)

-- what is found of a tree over its imports is found of the next module
pub next-found : (known_laws : KnownLaws) (laws : FamilyLaws) (family : List Member) (plan : Plan) (outcomes : List (List ℕ × Outcome)) (numbers : List (List ℕ × ℕ)) (old new : LevelTables) (name : List ℕ) (ready : IsReady family plan outcomes numbers old name) → entry_of outcomes name ≡ None → AreNumbers old numbers
    → IsOrdered old.tables.state.flat → IsOrdered new.tables.state.flat → (tree : ModuleTree) (needs : List (List ℕ)) (member : IsMember family name (reading.Tree tree) needs) (imports : Imports)
    → ((need : List ℕ) → Contains needs need → IsNeedTold ready.entries outcomes name need (given_in imports need)) → ImportsOnly needs imports → (files : List ℕ → Option ℕ) → ((other : List ℕ) → files other ≡ number_by (import_of imports other) (entry_of numbers other)) → (found : Found)
    → IsJudged name tree imports files old new found → IsNext family outcomes numbers name new found
next-found known_laws laws family plan outcomes numbers old new name ready unfound numbered was_ordered is_ordered tree needs member imports told only files are found judged =
    judged-next known_laws laws family plan outcomes numbers old new name ready unfound numbered was_ordered is_ordered tree needs member imports told only files are found judged.checked judged.facts judged.checked.faults refl judged.so

-- and an accepted one has nodes over what modules are by their versions
pub made-found : (known_laws : KnownLaws) (laws : FamilyLaws) (family : List Member) (plan : Plan) (outcomes : List (List ℕ × Outcome)) (numbers : List (List ℕ × ℕ)) (old new : LevelTables) (name : List ℕ) (ready : IsReady family plan outcomes numbers old name) (unfound : entry_of outcomes name ≡ None) (numbered : AreNumbers old numbers)
    (was_ordered : IsOrdered old.tables.state.flat) (is_ordered : IsOrdered new.tables.state.flat) (tree : ModuleTree) (needs : List (List ℕ)) (member : IsMember family name (reading.Tree tree) needs) (imports : Imports)
    (told : (need : List ℕ) → Contains needs need → IsNeedTold ready.entries outcomes name need (given_in imports need)) (only : ImportsOnly needs imports) (files : List ℕ → Option ℕ) (are : (other : List ℕ) → files other ≡ number_by (import_of imports other) (entry_of numbers other)) (found : Found)
    (judged : IsJudged name tree imports files old new found) (over_all : Over) → given_to family plan outcomes numbers old name ready tree needs member imports told only ≡ given_over over_all → files ≡ numbers_over over_all
    → ((other : List ℕ) → IfSome (files other) (λ number. number < face_count old)) → (number : ℕ) → found.number ≡ Some number
    → IsMadeAs new over_all name tree.source (module_of tree) found judged.checked.face number
made-found known_laws laws family plan outcomes numbers old new name ready unfound numbered was_ordered is_ordered tree needs member imports told only files are found judged over_all same numbers_same below number at =
    made-judged known_laws laws family plan outcomes numbers old new name ready unfound numbered was_ordered is_ordered tree needs member imports told only files are found judged.checked judged.facts over_all same numbers_same below number at judged.checked.faults refl judged.so

-- and one without faults of names and arities has nodes
pub names-made : (known_laws : KnownLaws) (laws : FamilyLaws) (family : List Member) (plan : Plan) (outcomes : List (List ℕ × Outcome)) (numbers : List (List ℕ × ℕ)) (old new : LevelTables) (name : List ℕ) (ready : IsReady family plan outcomes numbers old name) (unfound : entry_of outcomes name ≡ None) (numbered : AreNumbers old numbers)
    (was_ordered : IsOrdered old.tables.state.flat) (is_ordered : IsOrdered new.tables.state.flat) (tree : ModuleTree) (needs : List (List ℕ)) (member : IsMember family name (reading.Tree tree) needs) (imports : Imports)
    (told : (need : List ℕ) → Contains needs need → IsNeedTold ready.entries outcomes name need (given_in imports need)) (only : ImportsOnly needs imports) (files : List ℕ → Option ℕ) (are : (other : List ℕ) → files other ≡ number_by (import_of imports other) (entry_of numbers other)) (found : Found)
    (judged : IsJudged name tree imports files old new found) (over_all : Over) → given_to family plan outcomes numbers old name ready tree needs member imports told only ≡ given_over over_all → files ≡ numbers_over over_all
    → ((other : List ℕ) → IfSome (files other) (λ number. number < face_count old)) → named_faults (given_over over_all) tree.source (module_of tree) ≡ [] → IsMadeWith new over_all name tree.source (module_of tree)
names-made known_laws laws family plan outcomes numbers old new name ready unfound numbered was_ordered is_ordered tree needs member imports told only files are found judged over_all same numbers_same below =
    made-named known_laws laws family plan outcomes numbers old new name ready unfound numbered was_ordered is_ordered tree needs member imports told only files are found judged.checked judged.facts over_all same numbers_same below judged.checked.faults refl judged.so
