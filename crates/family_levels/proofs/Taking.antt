-- A version that is found anew in the place of one that was to others what it is.
use mathlib.Core.Path.{fun_ext}
use Rattle.std.proofs.Common.{◌≡◌, ◌<◌, ℕ, List, Option, Some, sym, ap, subst, ◌∙◌, arith, is_some}
use Rattle.std.specs.Prelude.{IfSome}
use Rattle.std.specs.Arc.{arc_value}
use Rattle.tla_tree.specs.declared.unit.ModuleTree.{ModuleTree}
use Rattle.tla_model.specs.declared.Diagnostic.{Diagnostic}
use Rattle.module_model.specs.declared.face.Face.{Face}
use Rattle.module_model.specs.Exports.{Exports, Instances, ModuleView, face_exports, face_instances, face_outside}
use Rattle.module_model.specs.Given.{AreReached, IsWhole}
use Rattle.face_views.specs.Same.{IsSameFace}
use Rattle.leveled_modules.specs.Leveled.{LevelTables}
use Rattle.alike_modules.specs.Known.{IsKnownFile}
use Rattle.family_facts.specs.Facts.{texts_of}
use Rattle.family_facts.specs.Family.{Member}
use Rattle.family_tables.specs.Agreement.{IsAgreed, IsAgreedFace, accepted_face}
use Rattle.family_tables.specs.Outcomes.{Matches}
use Rattle.family_tables.specs.declared.outcome.Outcome.{Outcome}
use Rattle.family_tables.specs.declared.outcome.Outcome.TheVariants as outcome
use Rattle.leveled_facts.specs.Families.{declares, leveled}
use Rattle.family_levels.specs.declared.«module».Found.{Found}
use Rattle.family_levels.specs.declared.versions.Version.{Version}
use Rattle.family_levels.specs.Leveling.{HasNumber, IsNext, face_count, faces_of}
use Rattle.family_levels.specs.Versions.{IsAcceptedOver, IsFoundOver, IsHeldFace, IsVersion, Over, Shown, leveled_over, shown_by}
use Rattle.family_levels.specs.Again.{IsFoundAs, IsLike, IsPlaced, IsPlacedNext, IsVersionAs, shown_after}
use Rattle.family_levels.specs.Laws.{AlikeLaws}
use Rattle.family_levels.proofs.Lasting.{exact-copy, shown-below}

some-same : (a b : ℕ) → ◌≡◌ {A = Option ℕ} (Some a) (Some b) → a ≡ b
some-same a b e = cc

face-same : (a b : Face) → ◌≡◌ {A = Option Face} (Some a) (Some b) → a ≡ b
face-same a b e = cc

abbrev pub LookAlike : Type 0
LookAlike = (one other : Face) → IsSameFace one other → face_outside one ≡ face_outside other

-- ---- faces that are the same

module _ (one other : Face) (same : IsSameFace one other) where
  instances-same : face_instances one ≡ face_instances other
  instances-same = fun_ext same.instances

  -- one holds what its exports reach where the other does
  whole-same : IsWhole other → IsWhole one
  whole-same is = record {
    exports =
        subst (λ (instances : Instances). AreReached instances (face_exports one)) (sym instances-same)
        (subst (λ (entries : Exports). AreReached (face_instances other) entries) (sym same.exports) is.exports);
    behind = λ decl entries there.
        subst (λ (instances : Instances). AreReached instances entries) (sym instances-same) (is.behind decl entries (sym (same.instances decl) ∙ there));
  }

  held-as : (over : Over) (title : List ℕ) → IsHeldFace over title other → IsHeldFace over title one
  held-as over title is = record { named = same.named ∙ is.named; whole = whole-same is.whole; from = λ decl entries there. is.from decl entries (sym (same.instances decl) ∙ there) }

  agreed-as : (outcomes : List (List ℕ × Outcome)) (name : List ℕ) → IsAgreedFace outcomes name other → IsAgreedFace outcomes name one
  agreed-as outcomes name is = record { named = same.named ∙ is.named; whole = whole-same is.whole; from = λ decl entries there. is.from decl entries (sym (same.instances decl) ∙ there) }

-- ---- what is found with the face of a version

module _ (known : LevelTables) (version : Version) (found taken : Found) (like : IsLike known version found) (taking : IsFoundAs version found taken) where
  taken-face : accepted_face (Some taken.outcome) ≡ Some like.before
  taken-face = taking.face ∙ like.before_is

  taken-number : taken.number ≡ Some like.was
  taken-number = taking.number ∙ like.was_is

  matches-as : LookAlike → (faults : List Diagnostic) (view : ModuleView) (o t : outcome.the_data) → accepted_face (Some o) ≡ Some like.face → accepted_face (Some t) ≡ Some like.before → Matches faults view o → Matches faults view t
  matches-as look faults view (outcome.Refused these) t has takes is = absurd (cc has)
  matches-as look faults view (outcome.Accepted face) (outcome.Refused these) has takes is = absurd (cc takes)
  matches-as look faults view (outcome.Accepted face) (outcome.Accepted before) has takes is =
      (is.0, ap face_outside (face-same (arc_value before) like.before takes) ∙ (look like.before like.face like.same ∙ (ap face_outside (sym (face-same (arc_value face) like.face has)) ∙ is.1)))

  numbered-as : (t : outcome.the_data) (number : Option ℕ) → accepted_face (Some t) ≡ Some like.before → number ≡ Some like.was → HasNumber t number
  numbered-as (outcome.Refused these) number takes at = absurd (cc takes)
  numbered-as (outcome.Accepted before) number takes at = ap is_some at

  agrees-as : (outcomes : List (List ℕ × Outcome)) (name : List ℕ) (o t : outcome.the_data) → accepted_face (Some o) ≡ Some like.face → accepted_face (Some t) ≡ Some like.before → IsAgreed outcomes name o → IsAgreed outcomes name t
  agrees-as outcomes name (outcome.Refused these) t has takes is = absurd (cc has)
  agrees-as outcomes name (outcome.Accepted face) (outcome.Refused these) has takes is = tt
  agrees-as outcomes name (outcome.Accepted face) (outcome.Accepted before) has takes is =
      subst (IsAgreedFace outcomes name) (sym (face-same (arc_value before) like.before takes))
      (agreed-as like.before like.face like.same outcomes name (subst (IsAgreedFace outcomes name) (face-same (arc_value face) like.face has) is))

  -- ---- a version that was accepted

  module _ (shown : ℕ → Option Shown) (next : ℕ) (name : List ℕ) (is : IsVersion known shown next name version) where
    was-accepted : IsAcceptedOver known is.over (shown version.id) name version.tree version.found like.was
    was-accepted = is.found.accepted like.was like.was_is

    kept-shown : shown_after shown next taken version.id ≡ shown version.id
    kept-shown = shown-below shown next (shown_by taken.outcome taken.number) version.id is.itself

    placed-as : IsPlaced (Some taken.outcome) taken.number (shown_after shown next taken version.id)
    placed-as =
        subst (IsPlaced (Some taken.outcome) taken.number) (sym kept-shown)
        (record { shown = was-accepted.shown; is = was-accepted.is; face = taking.face ∙ was-accepted.face_is; at = taken-number ∙ ap (λ n. Some n) (sym was-accepted.number_is) })

    pub taken-placed : (outcomes : List (List ℕ × Outcome)) (anew copy : Version) → IsVersionAs version anew taken copy → IsAgreed outcomes name found.outcome → IsPlacedNext outcomes shown next name known taken (Some copy)
    taken-placed outcomes anew copy in_place agreed = record {
      agreed = agrees-as outcomes name found.outcome taken.outcome like.face_is taken-face agreed;
      exact = exact-copy version.found.outcome taken.outcome taking.face is.exact;
      number = subst (λ n. IfSome n (λ m. m < face_count known)) (sym taken-number) was-accepted.there;
      below = let less : copy.id < next = subst (λ id. id < next) (sym in_place.id) is.itself in omega (arith, less);
      placed = λ has. subst (λ id. IsPlaced (Some taken.outcome) taken.number (shown_after shown next taken id)) (sym in_place.id) placed-as;
    }

    -- ---- found over others

    module _ (look : LookAlike) (over : Over) (own : Option Shown) (tree : ModuleTree) (so : IsFoundOver known over own name tree found) where
      found-number : found.number ≡ Some like.number
      found-number = like.number_is

      is-accepted : IsAcceptedOver known over own name tree found like.number
      is-accepted = so.accepted like.number like.number_is

      face-is : is-accepted.shown.face ≡ like.face
      face-is = face-same is-accepted.shown.face like.face (sym is-accepted.face_is ∙ like.face_is)

      was-face : was-accepted.shown.face ≡ like.before
      was-face = face-same was-accepted.shown.face like.before (sym was-accepted.face_is ∙ like.before_is)

      accepted-as : IsAcceptedOver known over (shown version.id) name tree taken like.was
      accepted-as = record {
        there = was-accepted.there;
        shown = was-accepted.shown;
        is = was-accepted.is;
        number_is = was-accepted.number_is;
        face_is = taking.face ∙ was-accepted.face_is;
        held =
            subst (IsHeldFace over name) (sym was-face)
            (held-as like.before like.face like.same over name (subst (IsHeldFace over name) face-is is-accepted.held));
        made = is-accepted.made;
        like = record {
          declares = was-accepted.like.declares;
          knowledge = was-accepted.like.knowledge;
          file = was-accepted.like.file;
          known = was-accepted.like.known;
          alike = λ more extends. like.alike more extends ∙ is-accepted.like.alike more extends;
        };
      }

      pub found-taken : IsFoundOver known over (shown version.id) name tree taken
      found-taken = record {
        read = so.read;
        viewed = so.viewed;
        says = matches-as look (leveled_over over tree).faults (leveled_over over tree).outside.view found.outcome taken.outcome like.face_is taken-face so.says;
        numbered = numbered-as taken.outcome taken.number taken-face taken-number;
        names = taking.names ∙ so.names;
        made = so.made;
        accepted = λ number at. subst (IsAcceptedOver known over (shown version.id) name tree taken) (some-same like.was number (sym taken-number ∙ at)) accepted-as;
      }

    -- ---- the next module

    pub taken-next : LookAlike → AlikeLaws → (family : List Member) (outcomes : List (List ℕ × Outcome)) (numbers : List (List ℕ × ℕ)) → IsNext family outcomes numbers name known found → IsNext family outcomes numbers name known taken
    taken-next look alike_laws family outcomes numbers so = record {
      there = so.there;
      says = matches-as look (leveled (texts_of family) name).faults (leveled (texts_of family) name).outside.view found.outcome taken.outcome like.face_is taken-face so.says;
      numbered = numbered-as taken.outcome taken.number taken-face taken-number;
      names = taking.names ∙ so.names;
      knowledge = so.knowledge;
      plain = so.plain;
      others = so.others;
      itself = λ number at.
          subst (λ n. IsKnownFile (declares (texts_of family)) known.tables.state.flat so.knowledge (faces_of known n) (leveled (texts_of family) name).outside) (some-same like.was number (sym taken-number ∙ at))
          (alike_laws.known was-accepted.like.declares (declares (texts_of family)) known.tables.state.flat was-accepted.like.knowledge so.knowledge (faces_of known like.was) (faces_of known like.number) was-accepted.like.file (leveled (texts_of family) name).outside
          was-accepted.like.known (so.itself like.number like.number_is) (like.alike known.tables.state.flat (record { nodes = λ i x there. there; definitions = λ i x there. there; instances = λ i x there. there })));
      foreign = λ title number later apart at. so.foreign title like.number later apart like.number_is;
    }
