-- What needs give, by the slots.
use Rattle.std.proofs.Common.{◌≡◌, ℕ, Bool, true, false, List, [], Option, Some, None, refl, sym, ap, ◌∙◌, cond, inl, inr}
use Rattle.std.specs.Prelude.{◌&&◌, slice_get, unwrap_or, is_none}
use Rattle.std.specs.Arc.{arc_value}
use Rattle.std.specs.FinMap.{keys}
use Rattle.list_laws.proofs.Tests.{and-left, and-right}
use Rattle.fact_store.specs.declared.slot.Slot.{Slot}
use Rattle.fact_store.specs.declared.slot.Kept.{Kept}
use Rattle.fact_values.specs.Names.{name_eq}
use Rattle.fact_values.specs.States.{State, no_text, cyclic, broken, fact, same_given}
use Rattle.fact_values.specs.Values.{needs_of_text, needs_in, reaches, gives, all_given, value_of_needs, value_of_text, value, given_in}
use Rattle.fact_store.specs.Given.{states}
use Rattle.fact_store.specs.Slots.{texts_of, source, HasNoSlot, IsSound, AreSound, is_made_from, is_settled}
use Rattle.fact_store.specs.Right.{is_fresh}
use Rattle.fact_values.proofs.NameLemmas.{true_or_false, same_name, name_eq-refl, name_eq-same}
use Rattle.fact_values.proofs.ReachLemmas.{leads-stuck}
use Rattle.fact_values.proofs.ValueLemmas.{value-step}
use Rattle.fact_store.proofs.SlotLemmas.{text_of-slot, text_of-none}
use Rattle.fact_store.proofs.Groups.{needs_in-slot}

module _ {Own F : Type 0} (own_of : List ℕ → List ℕ → Own) (needs_of : Own → Option (List (List ℕ))) (fact_of : List ℕ → Own → List (List ℕ × State F) → F) (slots : List (Slot Own F)) (sound : AreSound own_of needs_of fact_of slots) where
  -- the value of a slot's name, by its parts
  value-slot : (j : ℕ) (y : Slot Own F) → slice_get slots j ≡ Some y → value own_of needs_of fact_of (texts_of slots) y.name ≡ value_of_needs own_of needs_of fact_of (texts_of slots) (value own_of needs_of fact_of (texts_of slots)) y.name (own_of y.name y.bytes) y.needs
  value-slot j y e =
      let s = sound.each j y e in
      value-step own_of needs_of fact_of (texts_of slots) y.name
      ∙ ap (value_of_text own_of needs_of fact_of (texts_of slots) (value own_of needs_of fact_of (texts_of slots)) y.name) (text_of-slot slots j y sound.distinct e)
      ∙ ap (value_of_needs own_of needs_of fact_of (texts_of slots) (value own_of needs_of fact_of (texts_of slots)) y.name (own_of y.name y.bytes)) (ap needs_of (sym s.own_part) ∙ sym s.needs_part)

  pub value-broken : (j : ℕ) (y : Slot Own F) → slice_get slots j ≡ Some y → y.needs ≡ None → value own_of needs_of fact_of (texts_of slots) y.name ≡ broken
  value-broken j y e n =
      value-slot j y e ∙ ap (value_of_needs own_of needs_of fact_of (texts_of slots) (value own_of needs_of fact_of (texts_of slots)) y.name (own_of y.name y.bytes)) n

  pub value-none : (n : List ℕ) → HasNoSlot slots n → value own_of needs_of fact_of (texts_of slots) n ≡ no_text
  value-none n h =
      value-step own_of needs_of fact_of (texts_of slots) n
      ∙ ap (value_of_text own_of needs_of fact_of (texts_of slots) (value own_of needs_of fact_of (texts_of slots)) n) (text_of-none slots n h)

  -- what is given to a slot's name, by its needs
  given_in-slot : (j : ℕ) (y : Slot Own F) (ns : List (List ℕ)) → slice_get slots j ≡ Some y → y.needs ≡ Some ns → given_in own_of needs_of fact_of (texts_of slots) y.name ≡ all_given own_of needs_of fact_of (texts_of slots) (value own_of needs_of fact_of (texts_of slots)) y.name ns
  given_in-slot j y ns e n =
      ap (all_given own_of needs_of fact_of (texts_of slots) (value own_of needs_of fact_of (texts_of slots)) y.name) (needs_in-slot own_of needs_of fact_of slots sound j y e ∙ ap (λ (o : Option (List (List ℕ))). unwrap_or o []) n)

  module _ (same : F → F → Bool) (respects : (name : List ℕ) (own : Own) (xs ys : List (List ℕ × State F)) → same_given same xs ys ≡ true → fact_of name own xs ≡ fact_of name own ys) where
    -- a fact that is settled is the value
    pub value-settled : (j : ℕ) (y : Slot Own F) (ns : List (List ℕ)) (kept : Kept F) → slice_get slots j ≡ Some y → y.needs ≡ Some ns → y.kept ≡ Some kept → is_settled own_of needs_of fact_of same (texts_of slots) y ≡ true → value own_of needs_of fact_of (texts_of slots) y.name ≡ fact (arc_value kept.fact)
    value-settled j y ns kept e n k settled =
        value-slot j y e ∙ ap (value_of_needs own_of needs_of fact_of (texts_of slots) (value own_of needs_of fact_of (texts_of slots)) y.name (own_of y.name y.bytes)) n
        ∙ ap fact (sym (ap (fact_of y.name (own_of y.name y.bytes)) (given_in-slot j y ns e n)) ∙ sym facts)
      where
        tests : (name_eq (source kept y.bytes) y.bytes && same_given same (states kept.given) (given_in own_of needs_of fact_of (texts_of slots) y.name)) ≡ true
        tests = sym (ap (is_made_from own_of needs_of fact_of same (texts_of slots) y.name y.bytes) k) ∙ settled

        bytes : source kept y.bytes ≡ y.bytes
        bytes = same_name (source kept y.bytes) y.bytes (and-left _ _ tests)

        facts : arc_value kept.fact ≡ fact_of y.name (own_of y.name y.bytes) (given_in own_of needs_of fact_of (texts_of slots) y.name)
        facts =
            (sound.each j y e).made kept k ∙ ap (λ (b : List ℕ). fact_of y.name (own_of y.name b) (states kept.given)) bytes
            ∙ respects y.name (own_of y.name y.bytes) (states kept.given) (given_in own_of needs_of fact_of (texts_of slots) y.name) (and-right (name_eq (source kept y.bytes) y.bytes) _ tests)

  -- what is settled has a fact
  pub settled-kept : (same : F → F → Bool) (y : Slot Own F) → is_settled own_of needs_of fact_of same (texts_of slots) y ≡ true → y.kept ≡ None → ⊥
  settled-kept same y s n = let e : false ≡ true = sym (ap (is_made_from own_of needs_of fact_of same (texts_of slots) y.name y.bytes) n) ∙ s in cc e

  module _ (name : List ℕ) (n : List ℕ) where
    gives-off : reaches own_of needs_of fact_of (texts_of slots) n name ≡ false → gives own_of needs_of fact_of (texts_of slots) (value own_of needs_of fact_of (texts_of slots)) name n ≡ value own_of needs_of fact_of (texts_of slots) n
    gives-off e = ap (λ b. cond b cyclic (value own_of needs_of fact_of (texts_of slots) n)) e

    pub gives-cyclic : reaches own_of needs_of fact_of (texts_of slots) n name ≡ true → gives own_of needs_of fact_of (texts_of slots) (value own_of needs_of fact_of (texts_of slots)) name n ≡ cyclic
    gives-cyclic e = ap (λ b. cond b cyclic (value own_of needs_of fact_of (texts_of slots) n)) e

    pub gives-value : (s : State F) → reaches own_of needs_of fact_of (texts_of slots) n name ≡ false → value own_of needs_of fact_of (texts_of slots) n ≡ s → gives own_of needs_of fact_of (texts_of slots) (value own_of needs_of fact_of (texts_of slots)) name n ≡ s
    gives-value s e v = gives-off e ∙ v

    pub gives-none : (i : ℕ) (x : Slot Own F) → slice_get slots i ≡ Some x → x.name ≡ name → HasNoSlot slots n → gives own_of needs_of fact_of (texts_of slots) (value own_of needs_of fact_of (texts_of slots)) name n ≡ no_text
    gives-none i x at named h = gives-off off ∙ value-none n h
      where
        stuck : needs_in own_of needs_of fact_of (texts_of slots) n ≡ []
        stuck = ap (needs_of_text own_of needs_of fact_of n) (text_of-none slots n h)

        off : reaches own_of needs_of fact_of (texts_of slots) n name ≡ false
        off = elim (true_or_false (reaches own_of needs_of fact_of (texts_of slots) n name)) as (λ _. reaches own_of needs_of fact_of (texts_of slots) n name ≡ false) [
          | inl back ↦
              let e = leads-stuck (needs_in own_of needs_of fact_of (texts_of slots)) (keys (texts_of slots)) n name stuck back in
              let k : true ≡ false = sym (name_eq-same n x.name (e ∙ sym named)) ∙ h i x at in cc k
          | inr none ↦ none
        ]

-- whether a fact is fresh is whether it is settled, where it is held against what is given now
pub is_fresh-settled : {Own F : Type 0} (own_of : List ℕ → List ℕ → Own) (needs_of : Own → Option (List (List ℕ))) (fact_of : List ℕ → Own → List (List ℕ × State F) → F) (same : F → F → Bool) (slots : List (Slot Own F)) (slot : Slot Own F) (given : List (List ℕ × State F)) → IsSound own_of needs_of fact_of slot → given ≡ given_in own_of needs_of fact_of (texts_of slots) slot.name → is_fresh same slot.kept given ≡ is_settled own_of needs_of fact_of same (texts_of slots) slot
is_fresh-settled {F = F} own_of needs_of fact_of same slots slot given sound e = by_kept slot.kept refl
  where
    by_kept : (k : Option (Kept F)) → slot.kept ≡ k → is_fresh same k given ≡ is_made_from own_of needs_of fact_of same (texts_of slots) slot.name slot.bytes k
    by_kept None ek = refl
    by_kept (Some kept) ek = ap (λ b. b && same_given same (states kept.given) given) (by_from kept.from refl) ∙ ap (λ xs. name_eq (source kept slot.bytes) slot.bytes && same_given same (states kept.given) xs) e
      where
        by_from : (o : Option (List ℕ)) → kept.from ≡ o → is_none o ≡ name_eq (unwrap_or o slot.bytes) slot.bytes
        by_from None eo = sym (name_eq-refl slot.bytes)
        by_from (Some b) eo = sym (sound.elsewhere kept b ek eo)
