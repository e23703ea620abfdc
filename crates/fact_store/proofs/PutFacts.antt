-- What holds after a text is put, or removed.
use Rattle.std.proofs.Common.{◌≡◌, ℕ, List, [], ◌∷◌, ◌++◌, Option, None, refl, sym, ap, ◌∙◌, subst}
use Rattle.std.specs.Prelude.{slice_set, remove}
use Rattle.std.specs.FinMap.{insert}
use Rattle.std.specs.FinMap as map
use Rattle.fact_store.specs.declared.slot.Slot.{Slot}
use Rattle.fact_values.specs.States.{State}
use Rattle.fact_store.specs.Slots.{texts_of, HasNoSlot, IsIndexOf, AreSound, CarriesOver, new_slot}
use Rattle.fact_store.proofs.TextLemmas.{texts_of-set, texts_of-push, texts_of-remove}
use Rattle.fact_store.proofs.PutLemmas.{with_text, with_text-kept, IsSound-with_text, AreSound-set_text, AreSound-push, AreSound-remove, IsSound-new}
use Rattle.fact_store.proofs.Dirt.{carries-set_text, carries-push, carries-remove}

module _ {Own F : Type 0} (own_of : List ℕ → List ℕ → Own) (needs_of : Own → Option (List (List ℕ))) (fact_of : List ℕ → Own → List (List ℕ × State F) → F) where
  pub record IsPut (old new : List (Slot Own F)) (name bytes : List ℕ) : Type 0 where
    pub sound : AreSound own_of needs_of fact_of new
    pub texts : texts_of new ≡ insert (texts_of old) name bytes
    pub carries : CarriesOver old new

  pub put_over : (slots new : List (Slot Own F)) (index : ℕ) (name bytes text : List ℕ) (own : Own) (needs : Option (List (List ℕ))) → AreSound own_of needs_of fact_of slots → (p : IsIndexOf slots name index) → text ≡ bytes → own ≡ own_of name bytes → needs ≡ needs_of own → new ≡ slice_set slots index (with_text p.0 text own needs) → IsPut slots new name bytes
  put_over slots new index name bytes text own needs s p et eo en e =
      subst (λ (ss : List (Slot Own F)). IsPut slots ss name bytes) (sym e) (record {
        sound = AreSound-set_text own_of needs_of fact_of slots index p.0 y s p.1 refl
            (IsSound-with_text own_of needs_of fact_of p.0 text own needs (s.each index p.0 p.1) (eo ∙ ap (λ (n : List ℕ). own_of n bytes) (sym p.2) ∙ ap (own_of (p.0).name) (sym et)) en);
        texts = texts_of-set slots index p.0 y s.distinct p.1 refl ∙ ap (λ (n : List ℕ). insert (texts_of slots) n text) p.2 ∙ ap (insert (texts_of slots) name) et;
        carries = carries-set_text slots index p.0 y s.distinct p.1 refl (λ kept k. with_text-kept p.0 text own needs kept k);
      })
    where
      y : Slot Own F
      y = with_text p.0 text own needs

  pub put_new : (slots new : List (Slot Own F)) (name bytes called text : List ℕ) (own : Own) (needs : Option (List (List ℕ))) → AreSound own_of needs_of fact_of slots → HasNoSlot slots name → called ≡ name → text ≡ bytes → own ≡ own_of name bytes → needs ≡ needs_of own → new ≡ slots ++ (record { name = called; bytes = text; own = own; needs = needs; kept = None }) ∷ [] → IsPut slots new name bytes
  put_new slots new name bytes called text own needs s h ec et eo en e =
      subst (λ (ss : List (Slot Own F)). IsPut slots ss name bytes) (sym e) (record {
        sound = AreSound-push own_of needs_of fact_of slots y s gone (IsSound-new own_of needs_of fact_of called text own needs (eo ∙ ap (λ (n : List ℕ). own_of n bytes) (sym ec) ∙ ap (own_of called) (sym et)) en);
        texts = texts_of-push slots y gone ∙ ap (λ (n : List ℕ). insert (texts_of slots) n text) ec ∙ ap (insert (texts_of slots) name) et;
        carries = carries-push slots y s.distinct gone;
      })
    where
      y : Slot Own F
      y = record { name = called; bytes = text; own = own; needs = needs; kept = None }

      gone : HasNoSlot slots called
      gone = subst (HasNoSlot slots) (sym ec) h

  pub slot_over : (slots new : List (Slot Own F)) (index : ℕ) (name bytes : List ℕ) (slot : Slot Own F) → AreSound own_of needs_of fact_of slots → (p : IsIndexOf slots name index) → slot ≡ new_slot own_of needs_of name bytes → new ≡ slice_set slots index (with_text p.0 slot.bytes slot.own slot.needs) → IsPut slots new name bytes
  slot_over slots new index name bytes slot s p q e =
      put_over slots new index name bytes bytes (own_of name bytes) (needs_of (own_of name bytes)) s p refl refl refl (e ∙ ap (λ (z : Slot Own F). slice_set slots index (with_text p.0 z.bytes z.own z.needs)) q)

  pub slot_new : (slots new : List (Slot Own F)) (name bytes : List ℕ) (slot : Slot Own F) → AreSound own_of needs_of fact_of slots → HasNoSlot slots name → slot ≡ new_slot own_of needs_of name bytes → new ≡ slots ++ slot ∷ [] → IsPut slots new name bytes
  slot_new slots new name bytes slot s h q e =
      put_new slots new name bytes name bytes (own_of name bytes) (needs_of (own_of name bytes)) s h refl refl refl refl (e ∙ ap (λ (z : Slot Own F). slots ++ z ∷ []) q)

  pub record IsTakenOut (old new : List (Slot Own F)) (name : List ℕ) : Type 0 where
    pub sound : AreSound own_of needs_of fact_of new
    pub texts : texts_of new ≡ map.remove (texts_of old) name
    pub carries : CarriesOver old new

  pub taken_out : (slots new : List (Slot Own F)) (index : ℕ) (name : List ℕ) → AreSound own_of needs_of fact_of slots → IsIndexOf slots name index → new ≡ remove slots index → IsTakenOut slots new name
  taken_out slots new index name s p e =
      subst (λ (ss : List (Slot Own F)). IsTakenOut slots ss name) (sym e) (record {
        sound = AreSound-remove own_of needs_of fact_of slots index s;
        texts = texts_of-remove slots index p.0 s.distinct p.1 ∙ ap (map.remove (texts_of slots)) p.2;
        carries = carries-remove slots index s.distinct;
      })
