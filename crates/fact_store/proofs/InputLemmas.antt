-- What a need gives, from groups and slots that were read.
use Rattle.std.proofs.Common.{◌≡◌, ◌≢◌, ℕ, zero, suc, ◌<◌, Bool, true, false, List, [], ◌∷◌, Option, Some, None, sym, ap, ◌∙◌, inl, inr, length, get_or, nat_eq, arith}
use Rattle.std.specs.Prelude.{slice_get, slice_index, unwrap_or}
use Rattle.std.specs.Arc.{arc_value}
use Rattle.std.proofs.lemmas.Bool.{eqb-true, eq-eqb}
use Rattle.std.proofs.lemmas.Grind.{get_or_default_zero}
use Rattle.std.proofs.lemmas.Option.{slice_get_within}
use Rattle.fact_store.specs.declared.slot.Slot.{Slot}
use Rattle.fact_store.specs.declared.slot.Kept.{Kept}
use Rattle.fact_store.specs.declared.plan.Plan.{Plan}
use Rattle.fact_values.specs.Names.{has}
use Rattle.fact_values.specs.States.{State, cyclic, broken, fact, same_given}
use Rattle.fact_values.specs.Values.{reaches, gives, value}
use Rattle.fact_store.specs.Slots.{texts_of, IsIndexOf, is_settled}
use Rattle.fact_store.specs.Right.{IsPlan, IsDone, IsReady, IsRight}
use Rattle.fact_values.proofs.NameLemmas.{true_or_false}
use Rattle.fact_store.proofs.Groups.{group_tells}
use Rattle.fact_store.proofs.Gifts.{gives-cyclic, gives-value, value-broken, value-settled, settled-kept}

-- a number that was read
pub number_read : (numbers : List ℕ) (k a : ℕ) → k < length numbers → a ≡ get_or numbers k a → a ≡ slice_index numbers k
number_read numbers k a l e = e ∙ get_or_default_zero numbers k a l

module _ {Own F : Type 0} (own_of : List ℕ → List ℕ → Own) (needs_of : Own → Option (List (List ℕ))) (fact_of : List ℕ → Own → List (List ℕ × State F) → F) (same : F → F → Bool) (slots : List (Slot Own F)) (current : List Bool) (plan : Plan) (right : IsRight own_of needs_of fact_of same slots current) (planned : IsPlan slots plan) where
  module _ (i j : ℕ) (x : Slot Own F) (n : List ℕ) (at : slice_get slots i ≡ Some x) (there : IsIndexOf slots n j) (need : has (unwrap_or x.needs []) n ≡ true) (a b : ℕ) (ra : a ≡ get_or plan.groups.items j a) (rb : b ≡ get_or plan.groups.items i b) where
    within : (k : ℕ) (z : Slot Own F) → slice_get slots k ≡ Some z → k < length plan.groups.items
    within k z e = omega (arith, slice_get_within slots k z e, planned.edges.long, planned.groups.long)

    tells : nat_eq (slice_index plan.groups.items j) (slice_index plan.groups.items i) ≡ reaches own_of needs_of fact_of (texts_of slots) n x.name
    tells =
        group_tells own_of needs_of fact_of slots right.sound plan.edges.items planned.edges plan.order.items plan.groups.items planned.groups i j x there.0 at there.1 (ap (has (unwrap_or x.needs [])) there.2 ∙ need)
        ∙ ap (λ (m : List ℕ). reaches own_of needs_of fact_of (texts_of slots) m x.name) there.2

    pub input-cyclic : a ≡ b → cyclic ≡ gives own_of needs_of fact_of (texts_of slots) (value own_of needs_of fact_of (texts_of slots)) x.name n
    input-cyclic e =
        sym (gives-cyclic own_of needs_of fact_of slots right.sound x.name n
        (sym tells ∙ eq-eqb _ _ (sym (number_read plan.groups.items j a (within j there.0 there.1) ra) ∙ e ∙ number_read plan.groups.items i b (within i x at) rb)))

    apart : a ≢ b → nat_eq (slice_index plan.groups.items j) (slice_index plan.groups.items i) ≡ false
    apart ne = elim (true_or_false (nat_eq (slice_index plan.groups.items j) (slice_index plan.groups.items i))) as (λ _. nat_eq (slice_index plan.groups.items j) (slice_index plan.groups.items i) ≡ false) [
      | inl same ↦ absurd (ne (number_read plan.groups.items j a (within j there.0 there.1) ra ∙ eqb-true _ _ same ∙ sym (number_read plan.groups.items i b (within i x at) rb)))
      | inr other ↦ other
    ]

    input-value : a ≢ b → (s : State F) → value own_of needs_of fact_of (texts_of slots) (there.0).name ≡ s → s ≡ gives own_of needs_of fact_of (texts_of slots) (value own_of needs_of fact_of (texts_of slots)) x.name n
    input-value ne s v =
        sym (gives-value own_of needs_of fact_of slots right.sound x.name n s (sym tells ∙ apart ne) (ap (value own_of needs_of fact_of (texts_of slots)) (sym there.2) ∙ v))

    pub input-broken : a ≢ b → (there.0).needs ≡ None → broken ≡ gives own_of needs_of fact_of (texts_of slots) (value own_of needs_of fact_of (texts_of slots)) x.name n
    input-broken ne none = input-value ne broken (value-broken own_of needs_of fact_of slots right.sound j there.0 there.1 none)

    module _ (ready : IsReady slots plan.groups.items current i) where
      settled : a ≢ b → (ns : List (List ℕ)) → (there.0).needs ≡ Some ns → is_settled own_of needs_of fact_of same (texts_of slots) there.0 ≡ true
      settled ne ns some = elim (ready x at j there.0 there.1 (ap (has (unwrap_or x.needs [])) there.2 ∙ need) (apart ne)) as (λ _. is_settled own_of needs_of fact_of same (texts_of slots) there.0 ≡ true) [
        | inl none ↦ let k : ◌≡◌ {A = Option (List (List ℕ))} (Some ns) None = sym some ∙ none in cc k
        | inr mark ↦ right.settled j there.0 there.1 mark
      ]

      pub input-kept : a ≢ b → (ns : List (List ℕ)) → (there.0).needs ≡ Some ns → (there.0).kept ≡ None → ⊥
      input-kept ne ns some none = settled-kept own_of needs_of fact_of slots right.sound same there.0 (settled ne ns some) none

      pub input-fact : ((name : List ℕ) (own : Own) (xs ys : List (List ℕ × State F)) → same_given same xs ys ≡ true → fact_of name own xs ≡ fact_of name own ys) → a ≢ b → (ns : List (List ℕ)) (kept : Kept F) → (there.0).needs ≡ Some ns → (there.0).kept ≡ Some kept → fact (arc_value kept.fact) ≡ gives own_of needs_of fact_of (texts_of slots) (value own_of needs_of fact_of (texts_of slots)) x.name n
      input-fact respects ne ns kept some k = input-value ne (fact (arc_value kept.fact)) (value-settled own_of needs_of fact_of slots right.sound same respects j there.0 ns kept there.1 some k (settled ne ns some))

-- a slot that was read is the one that was found
pub read_slot : {A : Type 0} (xs : List A) (k : ℕ) (x y : A) → slice_get xs k ≡ Some y → x ≡ get_or xs k x → x ≡ y
read_slot [] k x y e r = cc
read_slot (z ∷ xs) zero x y e r = cc
read_slot (z ∷ xs) (suc k) x y e r = read_slot xs k x y e r

-- one item stands at an index
pub one_at : {A : Type 0} (xs : List A) (k : ℕ) (x y : A) → slice_get xs k ≡ Some x → slice_get xs k ≡ Some y → x ≡ y
one_at xs k x y e f = let h : ◌≡◌ {A = Option _} (Some x) (Some y) = sym e ∙ f in cc

-- what is settled and not broken has its fact as its value
module _ {Own F : Type 0} (own_of : List ℕ → List ℕ → Own) (needs_of : Own → Option (List (List ℕ))) (fact_of : List ℕ → Own → List (List ℕ × State F) → F) (same : F → F → Bool) (slots : List (Slot Own F)) (current : List Bool) (right : IsRight own_of needs_of fact_of same slots current) (i : ℕ) (x : Slot Own F) (at : slice_get slots i ≡ Some x) (ns : List (List ℕ)) (some : x.needs ≡ Some ns) (done : IsDone current i x) where
  settled-done : is_settled own_of needs_of fact_of same (texts_of slots) x ≡ true
  settled-done = elim done as (λ _. is_settled own_of needs_of fact_of same (texts_of slots) x ≡ true) [
    | inl none ↦ let k : ◌≡◌ {A = Option (List (List ℕ))} (Some ns) None = sym some ∙ none in cc k
    | inr mark ↦ right.settled i x at mark
  ]

  pub done-kept : x.kept ≡ None → ⊥
  done-kept none = settled-kept own_of needs_of fact_of slots right.sound same x settled-done none

  pub done-value : ((name : List ℕ) (own : Own) (xs ys : List (List ℕ × State F)) → same_given same xs ys ≡ true → fact_of name own xs ≡ fact_of name own ys) → (kept : Kept F) → x.kept ≡ Some kept → value own_of needs_of fact_of (texts_of slots) x.name ≡ fact (arc_value kept.fact)
  done-value respects kept k = value-settled own_of needs_of fact_of slots right.sound same respects i x ns kept at some k settled-done
