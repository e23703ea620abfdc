-- The next module, as a check finds it: of whatever family, and whatever is kept of those before it.
use Rattle.std.proofs.Common.{◌≡◌, ℕ, List, Option, Some, sym, subst}
use Rattle.std.specs.Prelude.{IfSome}
use Rattle.kind_text.specs.FlatModule.{IsOrdered}
use Rattle.leveled_modules.specs.Leveled.{LevelTables}
use Rattle.family_facts.specs.Facts.{texts_of}
use Rattle.family_tables.specs.Outcomes.{IsSomeModule}
use Rattle.family_tables.specs.Tables.{entry_of}
use Rattle.family_tables.specs.declared.order.Plan.{Plan}
use Rattle.family_tables.specs.declared.outcome.Outcome.{Outcome}
use Rattle.family_tables.specs.declared.reading.Module.{Module}
use Rattle.family_levels.specs.declared.«module».Found.{Found}
use Rattle.family_levels.specs.declared.versions.Need.{Need}
use Rattle.family_levels.specs.declared.versions.Version.{Version}
use Rattle.family_levels.specs.Laws.{AlikeLaws, FamilyLaws}
use Rattle.family_levels.specs.Versions.{AreVersions, IsVersion, Shown}
use Rattle.family_levels.specs.Exactness.{IsExactOutcome}
use Rattle.family_levels.specs.Again.{Anew, AreNeeds, IsFoundAs, IsFoundNext, IsInPlace, IsLike, IsMadeNext, IsVersionAnew, IsVersionAs, Taken}
use Rattle.family_levels.proofs.Following.{anew-leveled, anew-placed, over_needs, taken-leveled}
use Rattle.family_levels.proofs.Lasting.{KnownStay, MadeStay, versions-grow}
use Rattle.family_levels.proofs.Taking.{LookAlike, taken-placed}

module _ (stay : MadeStay) (known_stay : KnownStay) (look : LookAlike) (laws : FamilyLaws) (alike_laws : AlikeLaws) (plan : Plan) (old versions : List (List ℕ × Version)) (outcomes : List (List ℕ × Outcome)) (numbers : List (List ℕ × ℕ)) (next : ℕ) (name : List ℕ) (m : Module) (some : IsSomeModule name m)
    (needs : Option (List Need)) (asked : IfSome needs (AreNeeds plan outcomes versions name m.needs)) (known new : LevelTables) (was_ordered : IsOrdered known.tables.state.flat) (is_ordered : IsOrdered new.tables.state.flat) (found : Found) (is : IsFoundNext plan outcomes numbers name m.reading m.needs known new found) (exact : IsExactOutcome found.outcome) where
  -- with the version that it is, if it is one
  pub made-anew : (version : Option Version) → IfSome version (IsVersionAnew m needs next found) → IsMadeNext plan old versions outcomes numbers next name m known new found version
  made-anew version anew = record {
    grows = is.grows;
    placed = λ shown are placed. anew-placed plan outcomes numbers shown next versions placed name m some needs known new asked found is.numbered exact version anew is.agreed is.number;
    leveled = λ family shown are placed ready member.
        anew-leveled plan outcomes numbers shown next versions placed name m some needs known new asked found is.numbered exact version anew is.agreed is.number laws family ready member (is.next family ready member)
        (λ over tree reads accepted. is.so family over tree ready member reads accepted);
  }

  -- with one, in the place of another or not
  module _ (anew : Version) (is_anew : IsVersionAnew m needs next found anew) where
    was-version : (shown : ℕ → Option Shown) → AreVersions known shown next old → (before : Version) → entry_of old name ≡ Some before → IsVersion new shown next name before
    was-version shown are before there = versions-grow stay known_stay known new is.grows was_ordered is_ordered shown next old are name before there

    made-taken : (taken : Found) (version before : Version) → entry_of old name ≡ Some before → IsLike new before found → IsFoundAs before found taken → IsVersionAs before anew taken version → IsMadeNext plan old versions outcomes numbers next name m known new taken (Some version)
    made-taken taken version before there like taking in_place = record {
      grows = is.grows;
      placed = λ shown are placed. taken-placed new before found taken like taking shown next name (was-version shown are before there) outcomes anew version in_place is.agreed;
      leveled = λ family shown are placed ready member.
          taken-leveled plan outcomes numbers shown next versions placed name m some needs known new asked found is.numbered exact anew is_anew laws family ready member
          (λ accepted. is.so family (over_needs (texts_of family) shown m.needs anew.needs) anew.tree ready member is_anew.reads accepted)
          look alike_laws before (was-version shown are before there) taken like taking version in_place (is.next family ready member);
    }

    pub made-placed : (taken : Found) (version : Version) → IsInPlace old name new found anew taken version → IsMadeNext plan old versions outcomes numbers next name m known new taken (Some version)
    made-placed taken version (Anew same itself) =
        subst (λ t. IsMadeNext plan old versions outcomes numbers next name m known new t (Some version)) (sym same)
        (subst (λ v. IsMadeNext plan old versions outcomes numbers next name m known new found (Some v)) (sym itself) (made-anew (Some anew) is_anew))
    made-placed taken version (Taken before there like taking in_place) = made-taken taken version before there like taking in_place
