-- The texts that are held, each with what was last made from it.
use Rattle.std.specs.Prelude.{◌≡◌, ℕ, Bool, false, not, ◌&&◌, List, Option, Some, None, map, count_by, unwrap_or, slice_get, if◌then◌else◌}
use Rattle.std.specs.Arc.{arc_value}
use Rattle.std.specs.FinMap.{from_entries}
use Rattle.list_laws.specs.Distinct.{AreNamedApart}
use Rattle.fact_store.specs.declared.slot.Slot.{Slot}
use Rattle.fact_store.specs.declared.slot.Kept.{Kept}
use Rattle.fact_values.specs.Names.{name_eq, Texts}
use Rattle.fact_values.specs.States.{State, same_given}
use Rattle.fact_values.specs.Values.{given_in}
use Rattle.fact_store.specs.Given.{states}

-- the bytes from which a fact was made, in a slot that has these now
abbrev pub source : {F : Type 0} → Kept F → List ℕ → List ℕ
source kept bytes = unwrap_or kept.from bytes

module _ {Own F : Type 0} where
  -- each name with its text
  abbrev pub named_texts : List (Slot Own F) → List (List ℕ × List ℕ)
  named_texts slots = map (λ slot. (slot.name, slot.bytes)) slots

  -- the texts that these slots hold
  abbrev pub texts_of : List (Slot Own F) → Texts
  texts_of slots = from_entries (named_texts slots)

  -- no two slots have one name
  abbrev pub AreDistinct : List (Slot Own F) → Type 0
  AreDistinct slots = AreNamedApart (λ (slot : Slot Own F). slot.name) slots

  -- no slot has this name
  abbrev pub HasNoSlot : List (Slot Own F) → List ℕ → Type 0
  HasNoSlot slots name = (i : ℕ) (slot : Slot Own F) → slice_get slots i ≡ Some slot → name_eq name slot.name ≡ false

  -- the slot at this index has this name
  abbrev pub IsIndexOf : List (Slot Own F) → List ℕ → ℕ → Type 0
  IsIndexOf slots name index = (slot : Slot Own F) × (slice_get slots index ≡ Some slot) × (slot.name ≡ name)

  -- a fact of the first slot is one of the second too, and was made from the same
  abbrev pub IsHandedOn : Slot Own F → Slot Own F → Type 0
  IsHandedOn old new = (kept : Kept F) → old.kept ≡ Some kept → (later : Kept F) × (new.kept ≡ Some later) × (source later new.bytes ≡ source kept old.bytes) × (later.given ≡ kept.given)

  -- each slot that is left has the fact of the slot of its name before
  pub record CarriesOver (old new : List (Slot Own F)) : Type 0 where
    pub each : (i j : ℕ) (x y : Slot Own F) → slice_get old i ≡ Some x → slice_get new j ≡ Some y → y.name ≡ x.name → IsHandedOn x y

  module _ (own_of : List ℕ → List ℕ → Own) (needs_of : Own → Option (List (List ℕ))) (fact_of : List ℕ → Own → List (List ℕ × State F) → F) where
    -- the parts of a slot are those of its text, and the fact is that of what it was made from
    pub record IsSound (slot : Slot Own F) : Type 0 where
      pub own_part : slot.own ≡ own_of slot.name slot.bytes
      pub needs_part : slot.needs ≡ needs_of slot.own
      pub made : (kept : Kept F) → slot.kept ≡ Some kept → arc_value kept.fact ≡ fact_of slot.name (own_of slot.name (source kept slot.bytes)) (states kept.given)
      pub elsewhere : (kept : Kept F) (bytes : List ℕ) → slot.kept ≡ Some kept → kept.from ≡ Some bytes → name_eq bytes slot.bytes ≡ false

    -- all slots are sound, and no two have one name
    pub record AreSound (slots : List (Slot Own F)) : Type 0 where
      pub each : (i : ℕ) (slot : Slot Own F) → slice_get slots i ≡ Some slot → IsSound slot
      pub distinct : AreDistinct slots

    module _ (same : F → F → Bool) where
      -- whether a fact was made from these bytes, and from what the needs of the name give in these texts
      abbrev pub is_made_from : Texts → List ℕ → List ℕ → Option (Kept F) → Bool
      is_made_from texts name bytes None = false
      is_made_from texts name bytes (Some kept) = name_eq (source kept bytes) bytes && same_given same (states kept.given) (given_in own_of needs_of fact_of texts name)

      -- whether a fact was made from the present text of a slot, and from what its needs give now
      abbrev pub is_settled : Texts → Slot Own F → Bool
      is_settled texts slot = is_made_from texts slot.name slot.bytes slot.kept

      -- for how many names no fact was made from the present texts
      abbrev pub owed : List (Slot Own F) → ℕ
      owed slots = count_by (λ slot. not (is_settled (texts_of slots) slot)) slots

-- the slot of a text of which nothing was made
abbrev pub new_slot : {Own F : Type 0} → (List ℕ → List ℕ → Own) → (Own → Option (List (List ℕ))) → List ℕ → List ℕ → Slot Own F
new_slot own_of needs_of name bytes = record { name = name; bytes = bytes; own = own_of name bytes; needs = needs_of (own_of name bytes); kept = None }

-- where a fact was made from, once its text has these bytes
abbrev pub source_after : Option (List ℕ) → List ℕ → List ℕ → Option (List ℕ)
source_after from before bytes = if name_eq (unwrap_or from before) bytes then None else Some (unwrap_or from before)

-- a fact once its text has these bytes
abbrev pub kept_after : {F : Type 0} → Option (Kept F) → List ℕ → List ℕ → Option (Kept F)
kept_after None before bytes = None
kept_after (Some kept) before bytes = Some (record kept { from = source_after kept.from before bytes })
