-- Slots by their names and indices.
use Rattle.std.proofs.Common.{◌≡◌, ℕ, zero, suc, List, [], ◌∷◌, Option, Some, None, refl, sym, ap, ◌∙◌, cond, inl, inr}
use Rattle.std.specs.Prelude.{slice_get}
use Rattle.std.specs.FinMap.{get, get-from_entries, find}
use Rattle.std.specs.Cmp.Lexicographic.{nat_list_cmp_total}
use Rattle.fact_store.specs.declared.slot.Slot.{Slot}
use Rattle.fact_values.specs.Names.{name_cmp, name_eq}
use Rattle.fact_store.specs.Slots.{named_texts, texts_of, AreDistinct, HasNoSlot}
use Rattle.fact_values.proofs.NameLemmas.{true_or_false, same_name, name_eq-refl}

module _ {Own F : Type 0} where
  pub distinct-tail : (slot : Slot Own F) (slots : List (Slot Own F)) → AreDistinct (slot ∷ slots) → AreDistinct slots
  distinct-tail slot slots d i j x y p q e = let s : suc i ≡ suc j = d (suc i) (suc j) x y p q e in cc

  found : (slots : List (Slot Own F)) (i : ℕ) (slot : Slot Own F) → AreDistinct slots → slice_get slots i ≡ Some slot → find name_cmp slot.name (named_texts slots) ≡ Some slot.bytes
  found [] i slot d e = cc
  found (x ∷ slots) zero slot d e =
      let h : x ≡ slot = cc in
      ap (λ (y : Slot Own F). cond (name_eq slot.name y.name) (Some y.bytes) (find name_cmp slot.name (named_texts slots))) h
      ∙ ap (λ b. cond b (Some slot.bytes) (find name_cmp slot.name (named_texts slots))) (name_eq-refl slot.name)
  found (x ∷ slots) (suc i) slot d e = elim (true_or_false (name_eq slot.name x.name)) as (λ _. cond (name_eq slot.name x.name) (Some x.bytes) (find name_cmp slot.name (named_texts slots)) ≡ Some slot.bytes) [
    | inl same ↦ let h : suc i ≡ zero = d (suc i) zero slot x e refl (same_name slot.name x.name same) in cc h
    | inr other ↦ ap (λ b. cond b (Some x.bytes) (find name_cmp slot.name (named_texts slots))) other ∙ found slots i slot (distinct-tail x slots d) e
  ]

  -- the text of a slot's name is the slot's
  pub text_of-slot : (slots : List (Slot Own F)) (i : ℕ) (slot : Slot Own F) → AreDistinct slots → slice_get slots i ≡ Some slot → get (texts_of slots) slot.name ≡ Some slot.bytes
  text_of-slot slots i slot d e = get-from_entries nat_list_cmp_total (named_texts slots) slot.name ∙ found slots i slot d e

  -- where a name has a text, there is a slot
  pub record SlotWith (slots : List (Slot Own F)) (name bytes : List ℕ) : Type 0 where
    pub index : ℕ
    pub slot : Slot Own F
    pub at : slice_get slots index ≡ Some slot
    pub named : slot.name ≡ name
    pub holds : slot.bytes ≡ bytes

  lookup : (slots : List (Slot Own F)) (name bytes : List ℕ) → find name_cmp name (named_texts slots) ≡ Some bytes → SlotWith slots name bytes
  lookup [] name bytes e = cc
  lookup (x ∷ slots) name bytes e = elim (true_or_false (name_eq name x.name)) as (λ _. SlotWith (x ∷ slots) name bytes) [
    | inl same ↦ let h : ◌≡◌ {A = Option (List ℕ)} (Some x.bytes) (Some bytes) = sym (ap (λ b. cond b (Some x.bytes) (find name_cmp name (named_texts slots))) same) ∙ e in record { index = zero; slot = x; at = refl; named = sym (same_name name x.name same); holds = cc }
    | inr other ↦ let r = lookup slots name bytes (sym (ap (λ b. cond b (Some x.bytes) (find name_cmp name (named_texts slots))) other) ∙ e) in record { index = suc r.index; slot = r.slot; at = r.at; named = r.named; holds = r.holds }
  ]

  pub slot_with : (slots : List (Slot Own F)) (name bytes : List ℕ) → get (texts_of slots) name ≡ Some bytes → SlotWith slots name bytes
  slot_with slots name bytes e = lookup slots name bytes (sym (get-from_entries nat_list_cmp_total (named_texts slots) name) ∙ e)

  pub none_found : (slots : List (Slot Own F)) (name : List ℕ) → HasNoSlot slots name → find name_cmp name (named_texts slots) ≡ None
  none_found [] name h = refl
  none_found (x ∷ slots) name h = ap (λ b. cond b (Some x.bytes) (find name_cmp name (named_texts slots))) (h zero x refl) ∙ none_found slots name (λ i slot e. h (suc i) slot e)

  pub text_of-none : (slots : List (Slot Own F)) (name : List ℕ) → HasNoSlot slots name → get (texts_of slots) name ≡ None
  text_of-none slots name h = get-from_entries nat_list_cmp_total (named_texts slots) name ∙ none_found slots name h
