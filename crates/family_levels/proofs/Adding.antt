-- Versions so far, with that of one module more.
use Rattle.std.proofs.Common.{◌≡◌, ◌<◌, ◌≤◌, ◌+◌, ℕ, Bool, true, false, List, [], ◌∷◌, ◌++◌, Option, Some, None, refl, sym, ap, subst, ◌∙◌, cond, arith}
use Rattle.std.specs.Prelude.{IfSome, IsSome}
use Rattle.std.specs.Str.{bytes_eq}
use Rattle.list_laws.proofs.Texts.{same-text, text-itself}
use Rattle.kind_text.specs.FlatModule.{IsOrdered}
use Rattle.leveled_modules.specs.Leveled.{LevelTables}
use Rattle.family_tables.specs.Tables.{entry_of}
use Rattle.family_tables.specs.declared.outcome.Outcome.{Outcome}
use Rattle.family_tables.proofs.Tabling.{entry-append}
use Rattle.family_levels.specs.declared.«module».Found.{Found}
use Rattle.family_levels.specs.declared.versions.Version.{Version}
use Rattle.family_levels.specs.Leveling.{with_item}
use Rattle.family_levels.specs.Versions.{AreVersions, Grows, IsVersion, Shown, shown_by}
use Rattle.family_levels.specs.Again.{ArePlaced, IsPlaced, IsPlacedNext, IsPlacedVersion, shown_after}
use Rattle.family_levels.proofs.Growing.{items-append}
use Rattle.family_levels.proofs.Lasting.{AgreeBelow, KnownStay, MadeStay, shown-below, versions-grow, versions-shown}

pub after-agrees : (shown : ℕ → Option Shown) (next : ℕ) (found : Found) → AgreeBelow next shown (shown_after shown next found)
after-agrees shown next found = shown-below shown next (shown_by found.outcome found.number)

some-version : (a b : Version) → ◌≡◌ {A = Option Version} (Some a) (Some b) → a ≡ b
some-version a b e = cc

-- what is so of the version of the next module is so of the one that is there
of-next : (P : Version → Type 0) (o : Option Version) (v : Version) → IfSome o P → o ≡ Some v → P v
of-next P None v has is = absurd (cc is)
of-next P (Some w) v has is = subst P (some-version w v is) has

module _ (stay : MadeStay) (known_stay : KnownStay) (outcomes : List (List ℕ × Outcome)) (numbers : List (List ℕ × ℕ)) (versions : List (List ℕ × Version)) (shown : ℕ → Option Shown) (next : ℕ) (name : List ℕ) (found : Found) (version : Option Version) (unfound : entry_of outcomes name ≡ None) (unnumbered : entry_of numbers name ≡ None) (unversioned : entry_of versions name ≡ None)
    (old new : LevelTables) (grows : Grows old new) (was_ordered : IsOrdered old.tables.state.flat) (is_ordered : IsOrdered new.tables.state.flat) (outcomes' : List (List ℕ × Outcome)) (numbers' : List (List ℕ × ℕ)) (versions' : List (List ℕ × Version)) (after : ℕ) (outcomes-are : outcomes' ≡ outcomes ++ (name, found.outcome) ∷ []) (numbers-are : numbers' ≡ with_item numbers name found.number) (versions-are : versions' ≡ with_item versions name version) (after-is : after ≡ next + 1) where
  abbrev shown' : ℕ → Option Shown
  shown' = shown_after shown next found

  more-than : next ≤ after
  more-than = omega (arith, after-is)

  outcome-at : (other : List ℕ) → entry_of outcomes' other ≡ cond (bytes_eq other name) (Some found.outcome) (entry_of outcomes other)
  outcome-at other = ap (λ z. entry_of z other) outcomes-are ∙ entry-append outcomes other name found.outcome unfound

  number-at : (other : List ℕ) → entry_of numbers' other ≡ cond (bytes_eq other name) found.number (entry_of numbers other)
  number-at other = ap (λ z. entry_of z other) numbers-are ∙ items-append numbers name found.number unnumbered other

  version-at : (other : List ℕ) → entry_of versions' other ≡ cond (bytes_eq other name) version (entry_of versions other)
  version-at other = ap (λ z. entry_of z other) versions-are ∙ items-append versions name version unversioned other

  -- what is so of the version of the next module, and of those before it, is so of all
  of-all : (P : List ℕ → Version → Type 0) → IfSome version (P name) → ((other : List ℕ) (v : Version) → bytes_eq other name ≡ false → entry_of versions other ≡ Some v → P other v) → (other : List ℕ) (v : Version) → entry_of versions' other ≡ Some v → P other v
  of-all P itself before other v there = by (bytes_eq other name) refl (sym (version-at other) ∙ there)
    where
      by : (b : Bool) → bytes_eq other name ≡ b → cond b version (entry_of versions other) ≡ Some v → P other v
      by true same is = subst (λ n. P n v) (sym (same-text other name same)) (of-next (P name) version v itself is)
      by false apart is = before other v apart is

  -- a version is as it was placed
  still-placed : ArePlaced outcomes numbers shown next versions → (other : List ℕ) (v : Version) → bytes_eq other name ≡ false → entry_of versions other ≡ Some v → IsPlacedVersion outcomes' numbers' shown' after other v
  still-placed placed other v apart there =
      let was = placed other v there in
      let less : v.id < next = was.below in
      record {
        below = omega (arith, less, more-than);
        is = λ has.
            subst (λ o. IsPlaced o (entry_of numbers' other) (shown' v.id)) (sym (outcome-at other ∙ ap (λ b. cond b (Some found.outcome) (entry_of outcomes other)) apart))
            (subst (λ n. IsPlaced (entry_of outcomes other) n (shown' v.id)) (sym (number-at other ∙ ap (λ b. cond b found.number (entry_of numbers other)) apart))
            (subst (IsPlaced (entry_of outcomes other) (entry_of numbers other)) (sym (after-agrees shown next found v.id was.below)) (was.is has)));
      }

  itself-same : bytes_eq name name ≡ true
  itself-same = text-itself name name refl

  placed-itself : IsPlacedNext outcomes shown next name new found version → IfSome version (IsPlacedVersion outcomes' numbers' shown' after name)
  placed-itself is = by version is.below is.placed
    where
      here : (v : Version) → v.id < next + 1 → (IsSome v.found.number → IsPlaced (Some found.outcome) found.number (shown' v.id)) → IsPlacedVersion outcomes' numbers' shown' after name v
      here v less place = record {
        below = omega (arith, less, after-is);
        is = λ has.
            subst (λ o. IsPlaced o (entry_of numbers' name) (shown' v.id)) (sym (outcome-at name ∙ ap (λ b. cond b (Some found.outcome) (entry_of outcomes name)) itself-same))
            (subst (λ n. IsPlaced (Some found.outcome) n (shown' v.id)) (sym (number-at name ∙ ap (λ b. cond b found.number (entry_of numbers name)) itself-same)) (place has));
      }

      by : (o : Option Version) → IfSome o (λ v. v.id < next + 1) → IfSome o (λ v. IsSome v.found.number → IsPlaced (Some found.outcome) found.number (shown' v.id)) → IfSome o (IsPlacedVersion outcomes' numbers' shown' after name)
      by None less place = tt
      by (Some v) less place = here v less place

  pub placed-more : ArePlaced outcomes numbers shown next versions → IsPlacedNext outcomes shown next name new found version → ArePlaced outcomes' numbers' shown' after versions'
  placed-more placed is = of-all (IsPlacedVersion outcomes' numbers' shown' after) (placed-itself is) (still-placed placed)

  -- versions before stay
  pub old-more : (others : List (List ℕ × Version)) → AreVersions old shown next others → AreVersions new shown' after others
  old-more others are = versions-shown shown shown' next (after-agrees shown next found) new after more-than others (versions-grow stay known_stay old new grows was_ordered is_ordered shown next others are)

  pub versions-more : AreVersions old shown next versions → IfSome version (IsVersion new shown' (next + 1) name) → AreVersions new shown' after versions'
  versions-more are itself = of-all (IsVersion new shown' after) (subst (λ n. IfSome version (IsVersion new shown' n name)) (sym after-is) itself) (λ other v apart there. old-more versions are other v there)

-- a module without an outcome has no item
pub none-more : {T : Type 0} (outcomes outcomes' : List (List ℕ × Outcome)) (items items' : List (List ℕ × T)) (name : List ℕ) (outcome : Outcome) (item : Option T) → entry_of outcomes name ≡ None → ((other : List ℕ) → entry_of outcomes other ≡ None → entry_of items other ≡ None)
    → outcomes' ≡ outcomes ++ (name, outcome) ∷ [] → items' ≡ with_item items name item → (other : List ℕ) → entry_of outcomes' other ≡ None → entry_of items' other ≡ None
none-more outcomes outcomes' items items' name outcome item fresh only grown with_it other none =
    by (bytes_eq other name) refl (sym (ap (λ z. entry_of z other) grown ∙ entry-append outcomes other name outcome fresh) ∙ none)
  where
    at : entry_of items' other ≡ cond (bytes_eq other name) item (entry_of items other)
    at = ap (λ z. entry_of z other) with_it ∙ items-append items name item (only name fresh) other

    by : (b : Bool) → bytes_eq other name ≡ b → cond b (Some outcome) (entry_of outcomes other) ≡ None → entry_of items' other ≡ None
    by true same is = absurd (cc is)
    by false apart is = at ∙ (ap (λ b. cond b item (entry_of items other)) apart ∙ only other is)
