-- A store's parts, before and after facts were brought up.
use Rattle.std.proofs.Common.{◌≡◌, ℕ, ◌+◌, ◌<◌, ◌≤◌, Bool, List, [], Option, None, Some, sym, ap, ◌∙◌, subst, length, arith}
use Rattle.std.proofs.lemmas.Option.{slice_get_within}
use Rattle.fact_store.specs.declared.slot.Slot.{Slot}
use Rattle.fact_store.specs.declared.plan.Plan.{Plan}
use Rattle.fact_values.specs.States.{State, no_text}
use Rattle.fact_values.specs.Names.{Texts}
use Rattle.fact_values.specs.Values.{value, dirty}
use Rattle.fact_store.specs.Slots.{texts_of, HasNoSlot, IsIndexOf, AreSound, owed}
use Rattle.fact_store.specs.Plans.{is_marked}
use Rattle.fact_store.specs.Right.{outlines, HoldsPlan, IsStore}
use Rattle.fact_store.proofs.Gifts.{value-none}
use Rattle.fact_store.proofs.KeepLemmas.{outline_at}
use Rattle.fact_store.proofs.Orders.{IsPlan-same, length-outlines}
use Rattle.fact_store.proofs.Rows.{slot_at}

module _ {Own F : Type 0} where
  -- the slot of a name keeps its index
  pub index_kept : (new old : List (Slot Own F)) (name : List ℕ) (index : ℕ) → outlines new ≡ outlines old → IsIndexOf old name index → IsIndexOf new name index
  index_kept new old name index e p =
      let l : index < length new = omega (arith, slice_get_within old index p.0 p.1, length-outlines new, length-outlines old, ap length e) in
      let z = slot_at new index l in
      let w = outline_at new old index z.0 e z.1 in
      let k : ◌≡◌ {A = Option (Slot Own F)} (Some w.0) (Some p.0) = sym w.1 ∙ p.1 in let s : w.0 ≡ p.0 = cc in
      (z.0, z.1, sym (ap (λ (o : List ℕ × List ℕ × Own × Option (List (List ℕ))). o.0) w.2) ∙ ap (λ (x : Slot Own F). x.name) s ∙ p.2)

  pub HoldsPlan-same : (new old : List (Slot Own F)) (plan : Option Plan) → outlines new ≡ outlines old → HoldsPlan old plan → HoldsPlan new plan
  HoldsPlan-same new old None e h = tt
  HoldsPlan-same new old (Some plan) e h = IsPlan-same new old plan e h

  module _ (own_of : List ℕ → List ℕ → Own) (needs_of : Own → Option (List (List ℕ))) (fact_of : List ℕ → Own → List (List ℕ × State F) → F) (same : F → F → Bool) where
    pub no_text-value : (slots : List (Slot Own F)) (texts : Texts) (name : List ℕ) → AreSound own_of needs_of fact_of slots → HasNoSlot slots name → texts_of slots ≡ texts → no_text ≡ value own_of needs_of fact_of texts name
    no_text-value slots texts name s h e = sym (value-none own_of needs_of fact_of slots s name h) ∙ ap (λ (t : Texts). value own_of needs_of fact_of t name) e

    -- with no marks, sound slots and their plan are right
    pub IsStore-unmarked : (slots : List (Slot Own F)) (plan : Option Plan) (current : List Bool) → AreSound own_of needs_of fact_of slots → HoldsPlan slots plan → current ≡ [] → IsStore own_of needs_of fact_of same slots plan current
    IsStore-unmarked slots plan current s p e =
        subst (λ (c : List Bool). IsStore own_of needs_of fact_of same slots plan c) (sym e) (record {
          right = record { sound = s; settled = λ i slot g m. cc m };
          planned = p;
          marks = omega arith;
        })

    -- marks that are not set may come, and another plan
    pub IsStore-cover : (slots : List (Slot Own F)) (before plan : Option Plan) (old new : List Bool) → IsStore own_of needs_of fact_of same slots before old → HoldsPlan slots plan → ((i : ℕ) → is_marked new i ≡ is_marked old i) → length new ≤ length slots → IsStore own_of needs_of fact_of same slots plan new
    IsStore-cover slots before plan old new s p m l = record {
      right = record { sound = s.right.sound; settled = λ i slot at h. s.right.settled i slot at (sym (m i) ∙ h) };
      planned = p;
      marks = l;
    }

    pub owed-at : (old : List (Slot Own F)) (texts : Texts) (owes : ℕ) (new : List (Slot Own F)) → texts_of old ≡ texts → owed own_of needs_of fact_of same old ≡ owes → owed own_of needs_of fact_of same new ≤ owed own_of needs_of fact_of same old + dirty own_of needs_of fact_of same (texts_of old) (texts_of new) → owed own_of needs_of fact_of same new ≤ owes + dirty own_of needs_of fact_of same texts (texts_of new)
    owed-at old texts owes new et eo h =
        omega (arith, h, eo, ap (λ (t : Texts). dirty own_of needs_of fact_of same t (texts_of new)) et)
