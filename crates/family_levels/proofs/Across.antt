-- What was found of a module over others is found of it over those that are to it what they were.
use mathlib.Core.Path.{fun_ext}
use Rattle.std.proofs.Common.{◌≡◌, ◌<◌, ℕ, List, [], ◌∷◌, Option, Some, None, refl, sym, ap, subst, ◌∙◌, map}
use Rattle.std.specs.Prelude.{IfSome}
use Rattle.tla_tree.specs.declared.unit.ModuleTree.{ModuleTree}
use Rattle.tla_model.specs.declared.Diagnostic.{Diagnostic}
use Rattle.tla_model.specs.declared.ids.DeclId.{DeclId}
use Rattle.tla_model.specs.Entities.{Meaning}
use Rattle.unit_grammar.specs.UnitNodes.{module_of}
use Rattle.unit_grammar.specs.Units.{ModuleUnits}
use Rattle.module_model.specs.declared.face.Face.{Face}
use Rattle.module_model.specs.Bindings.{faults}
use Rattle.module_model.specs.Exports.{Exports, ModuleView, face_instances, face_outside}
use Rattle.module_model.specs.Resolution.{findings, outside_in}
use Rattle.module_facts.specs.Checks.{ImportStatus, all_faults}
use Rattle.arity_rules.specs.Arities.{arity_faults}
use Rattle.kind_text.specs.FlatModule.{FlatModule, IsOrdered}
use Rattle.tree_kinds.specs.Standing.{Outside}
use Rattle.module_kinds.specs.ModuleKinds.{outside as module_outside}
use Rattle.flat_trees.specs.Instances.{symbols_of}
use Rattle.flattened_trees.specs.Leads.{FlatFace}
use Rattle.flattened_units.specs.Units.{IsModuleMade}
use Rattle.readable_laws.specs.Uses.{implied_by, means_by}
use Rattle.leveled_modules.specs.Leveled.{LevelTables, file_faces}
use Rattle.alike_modules.specs.Known.{IsMadeOver, face_of, found_over}
use Rattle.family_facts.specs.Facts.{texts_of}
use Rattle.family_facts.specs.Family.{Member}
use Rattle.family_tables.specs.Outcomes.{IsMember, Matches}
use Rattle.family_tables.specs.Tables.{entry_of}
use Rattle.family_tables.specs.declared.order.Plan.{Plan}
use Rattle.family_tables.specs.declared.outcome.Outcome.{Outcome}
use Rattle.family_tables.specs.declared.reading.Reading.TheVariants as reading
use Rattle.leveled_facts.specs.Families.{declares}
use Rattle.alike_modules.specs.Alike.{AreFoundAlike}
use Rattle.leveled_facts.specs.Modules.{Accepted, Status, import_status, outside_by}
use Rattle.family_levels.specs.declared.«module».Found.{Found}
use Rattle.family_levels.specs.Leveling.{IsReady, face_count, faces_of}
use Rattle.family_levels.specs.Versions.{AreNeedsTold, AreViewed, IsAcceptedOver, IsFaceLike, IsFoundOver, IsHeld, IsHeldFace, IsMadeWith, Over, Own, Shared, Shown, Told, given_over, leveled_over, named_faults, number_in, numbers_over, outsides_over, shown_in, status_told}
use Rattle.family_levels.specs.Laws.{AlikeLaws, FamilyLaws, KnownLaws}
use Rattle.family_levels.proofs.Over.{made-over, over-viewed}

-- ---- modules of which the same is kept

-- the number that is kept of a module
abbrev number_shown : Option Shown → Option ℕ
number_shown None = None
number_shown (Some shown) = Some shown.number

number-of : (told : Option Told) → number_in told ≡ number_shown (shown_in told)
number-of None = refl
number-of (Some told) = refl

shown-some : (a b : Shown) → ◌≡◌ {A = Option Shown} (Some a) (Some b) → a ≡ b
shown-some a b e = cc

-- a module of which this is kept
record IsToldAs (told : Option Told) (shown : Shown) : Type 0 where
  there : Told
  is : told ≡ Some there
  same : there.shown ≡ shown

told-as : (told : Option Told) (shown : Shown) → shown_in told ≡ Some shown → IsToldAs told shown
told-as None shown e = absurd (cc e)
told-as (Some told) shown e = record { there = told; is = refl; same = shown-some told.shown shown e }

-- where their views are those of their faces, they have the same views
views-by : (lack less : Status) → lack ≡ less → (one other : Option Told) → ((told : Told) → one ≡ Some told → told.outside.view ≡ face_outside told.shown.face) → ((told : Told) → other ≡ Some told → told.outside.view ≡ face_outside told.shown.face)
    → shown_in one ≡ shown_in other → (outside_by (status_told lack one)).view ≡ (outside_by (status_told less other)).view
views-by lack less lacks None None first second same = ap (λ s. (outside_by s).view) lacks
views-by lack less lacks None (Some told) first second same = absurd (cc same)
views-by lack less lacks (Some told) None first second same = absurd (cc same)
views-by lack less lacks (Some one) (Some other) first second same = first one refl ∙ (ap (λ (s : Shown). face_outside s.face) (shown-some one.shown other.shown same) ∙ sym (second other refl))

-- and so the names of others are to them what they were
statuses-by : (lack less : Status) → lack ≡ less → (one other : Option Told) → ((told : Told) → one ≡ Some told → told.outside.view ≡ face_outside told.shown.face) → ((told : Told) → other ≡ Some told → told.outside.view ≡ face_outside told.shown.face)
    → shown_in one ≡ shown_in other → import_status (status_told lack one) ≡ import_status (status_told less other)
statuses-by lack less lacks None None first second same = ap import_status lacks
statuses-by lack less lacks None (Some told) first second same = absurd (cc same)
statuses-by lack less lacks (Some told) None first second same = absurd (cc same)
statuses-by lack less lacks (Some one) (Some other) first second same = ap (λ (v : ModuleView). import_status (Accepted (record one.outside { view = v }))) (views-by lack less lacks (Some one) (Some other) first second same)

module _ (once over : Over) (was_viewed : AreViewed once) (is_viewed : AreViewed over) (same : (other : List ℕ) → shown_in (once.told other) ≡ shown_in (over.told other)) (lacks : (other : List ℕ) → once.lacks other ≡ over.lacks other) where
  numbers-same : numbers_over once ≡ numbers_over over
  numbers-same = fun_ext (λ other. number-of (once.told other) ∙ (ap number_shown (same other) ∙ sym (number-of (over.told other))))

  views-same : (other : List ℕ) → (outsides_over once other).view ≡ (outsides_over over other).view
  views-same other = views-by (once.lacks other) (over.lacks other) (lacks other) (once.told other) (over.told other) (was_viewed other) (is_viewed other) (same other)

  all-views : ◌≡◌ {A = List ℕ → ModuleView} (λ other. (outsides_over once other).view) (λ other. (outsides_over over other).view)
  all-views = fun_ext views-same

  statuses-same : (other : List ℕ) → import_status (given_over once other) ≡ import_status (given_over over other)
  statuses-same other = statuses-by (once.lacks other) (over.lacks other) (lacks other) (once.told other) (over.told other) (was_viewed other) (is_viewed other) (same other)

  named-same : (source : List ℕ) (units : ModuleUnits) → named_faults (given_over once) source units ≡ named_faults (given_over over) source units
  named-same source units = ap (λ (g : List ℕ → ImportStatus). all_faults g source units) (fun_ext statuses-same)

  found-same : (source : List ℕ) (units : ModuleUnits) → found_over (outsides_over once) source units ≡ found_over (outsides_over over) source units
  found-same source units = ap (λ (v : List ℕ → ModuleView). findings v source units) all-views

  -- a face over some is one over the others
  held-same : (title : List ℕ) (face : Face) → IsHeldFace once title face → IsHeldFace over title face
  held-same title face is = record { named = is.named; whole = is.whole; from = λ decl entries there. by decl entries (is.from decl entries there) }
    where
      by : (decl : DeclId) (entries : Exports) → IsHeld once title decl entries → IsHeld over title decl entries
      by decl entries (Own own) = Own own
      by decl entries (Shared name told there has) =
          let as_told = told-as (over.told name) told.shown (sym (same name) ∙ ap shown_in there) in
          Shared name as_told.there as_told.is (ap (λ (s : Shown). face_instances s.face decl) as_told.same ∙ has)

-- ---- the next module

module _ (laws : FamilyLaws) (family : List Member) (plan : Plan) (outcomes : List (List ℕ × Outcome)) (numbers : List (List ℕ × ℕ)) (known : LevelTables) (name : List ℕ) (ready : IsReady family plan outcomes numbers known name)
    (tree : ModuleTree) (needs : List (List ℕ)) (member : IsMember family name (reading.Tree tree) needs) (over : Over) (told : AreNeedsTold family outcomes numbers name needs over) (known_laws : KnownLaws) (unfound : entry_of outcomes name ≡ None) (ordered : IsOrdered known.tables.state.flat)
    (alike_laws : AlikeLaws) (once : Over) (same : (other : List ℕ) → shown_in (once.told other) ≡ shown_in (over.told other)) (lacks : (other : List ℕ) → once.lacks other ≡ over.lacks other) (own : Option Shown) (found : Found) (is : IsFoundOver known once own name tree found) where
  abbrev source : List ℕ
  source = tree.source

  abbrev units : ModuleUnits
  units = module_of tree

  abbrev flat : FlatModule
  flat = known.tables.state.flat

  abbrev were : List ℕ → Outside
  were = outsides_over once

  abbrev outs : List ℕ → Outside
  outs = outsides_over over

  viewed : AreViewed over
  viewed = over-viewed laws family plan outcomes numbers known name ready tree needs member over told

  abbrev all_views_same : ◌≡◌ {A = List ℕ → ModuleView} (λ other. (were other).view) (λ other. (outs other).view)
  all_views_same = all-views once over is.viewed viewed same lacks

  abbrev numbers_same : numbers_over once ≡ numbers_over over
  numbers_same = numbers-same once over is.viewed viewed same lacks

  -- ---- nodes

  module _ (was : IsMadeWith known once name source units) where
    abbrev files : List ℕ → FlatFace
    files = file_faces (faces_of known) (numbers_over over)

    was-made : IsMadeOver was.declares flat was.knowledge files were name source units (symbols_of (module_outside were source units)) was.last was.asked
    was-made =
        subst (λ (ns : List ℕ → Option ℕ). IsMadeOver was.declares flat was.knowledge (file_faces (faces_of known) ns) were name source units (symbols_of (module_outside were source units)) was.last was.asked)
        numbers_same was.made

    made-now : IsModuleMade flat (means_by (found_over outs source units)) (implied_by (found_over outs source units)) files outs source units (symbols_of (module_outside outs source units)) was.last was.asked
    made-now =
        subst (λ (v : List ℕ → ModuleView). IsModuleMade flat (means_by (findings v source units)) (implied_by (findings v source units)) files outs source units (map (λ parameter. parameter.1) (outside_in v source units).parameters) was.last was.asked)
        all_views_same
        (alike_laws.views flat (means_by (found_over were source units)) (implied_by (found_over were source units)) files were outs source units (symbols_of (module_outside were source units)) was.last was.asked
        (views-same once over is.viewed viewed same lacks) was-made.made)

    found-none : faults (found_over outs source units) ≡ []
    found-none = sym (ap faults (found-same once over is.viewed viewed same lacks source units)) ∙ was-made.faultless.names

    arity-none : arity_faults (found_over outs source units) units.units ≡ []
    arity-none = sym (ap (λ f. arity_faults f units.units) (found-same once over is.viewed viewed same lacks source units)) ∙ was-made.faultless.arities

    is-made : IsMadeOver (declares (texts_of family)) flat ready.leveled_so.knowledge files outs name source units (symbols_of (module_outside outs source units)) was.last was.asked
    is-made = made-over laws family plan outcomes numbers known name ready tree needs member over told known_laws unfound ordered was.last was.asked made-now found-none arity-none

    -- the same with the symbols that it had
    is-made-as : IsMadeOver (declares (texts_of family)) flat ready.leveled_so.knowledge files outs name source units (symbols_of (module_outside were source units)) was.last was.asked
    is-made-as =
        subst (λ (symbols : List Meaning). IsMadeOver (declares (texts_of family)) flat ready.leveled_so.knowledge files outs name source units symbols was.last was.asked)
        (ap (λ (v : List ℕ → ModuleView). map (λ parameter. parameter.1) (outside_in v source units).parameters) (sym all_views_same)) is-made

    now-made : IsMadeWith known over name source units
    now-made = record {
      last = was.last;
      asked = was.asked;
      below = λ other. subst (λ (ns : List ℕ → Option ℕ). IfSome (ns other) (λ n. n < face_count known)) numbers_same (was.below other);
      declares = declares (texts_of family);
      knowledge = ready.leveled_so.knowledge;
      made = is-made;
    }

    made-alike : AreFoundAlike (leveled_over once tree) (leveled_over over tree)
    made-alike =
        alike_laws.found (given_over once) (given_over over) was.declares (declares (texts_of family)) flat was.knowledge ready.leveled_so.knowledge files name source units (symbols_of (module_outside were source units)) was.last was.asked
        (statuses-same once over is.viewed viewed same lacks) was-made is-made-as

    face-alike : face_of were source units was.last ≡ face_of outs source units was.last
    face-alike =
        alike_laws.faces (given_over once) (given_over over) was.declares (declares (texts_of family)) flat was.knowledge ready.leveled_so.knowledge files name source units (symbols_of (module_outside were source units)) was.last was.asked
        (views-same once over is.viewed viewed same lacks) was-made is-made-as

  -- ---- what is found

  found-alike : AreFoundAlike (leveled_over once tree) (leveled_over over tree)
  found-alike = by (named_faults (given_over once) source units) refl
    where
      by : (these : List Diagnostic) → named_faults (given_over once) source units ≡ these → AreFoundAlike (leveled_over once tree) (leveled_over over tree)
      by [] none = made-alike (is.made none)
      by (fault ∷ rest) some = alike_laws.refused (given_over once) (given_over over) source units fault rest (statuses-same once over is.viewed viewed same lacks) some

  accepted-across : (number : ℕ) → IsAcceptedOver known once own name tree found number → IsAcceptedOver known over own name tree found number
  unfolding now-made
  accepted-across number a = record {
    there = a.there;
    shown = a.shown;
    is = a.is;
    number_is = a.number_is;
    face_is = a.face_is;
    held = held-same once over is.viewed viewed same lacks name a.shown.face a.held;
    made = now-made a.made;
    like = subst (IsFaceLike flat (faces_of known number)) (face-alike a.made) a.like;
  }

  -- it is found over the others
  pub found-across : IsFoundOver known over own name tree found
  found-across =
      let alike = found-alike in
      record {
        read = is.read;
        viewed = viewed;
        says = subst (λ view. Matches (leveled_over over tree).faults view found.outcome) alike.view (subst (λ fs. Matches fs (leveled_over once tree).outside.view found.outcome) alike.faults is.says);
        numbered = is.numbered;
        names = is.names ∙ (λ i. record { uses = alike.uses i; decls = alike.decls i });
        made = λ none. now-made (is.made (named-same once over is.viewed viewed same lacks source units ∙ none));
        accepted = λ number at. accepted-across number (is.accepted number at);
      }
