-- What stays right where one slot gets another fact.
use Rattle.std.proofs.Common.{◌≡◌, ◌≢◌, ℕ, zero, suc, ◌+◌, ◌<◌, ◌≤◌, Bool, true, false, List, [], ◌∷◌, Option, Some, None, refl, sym, ap, ◌∙◌, subst, cond, inl, inr, map, length, get_or, arith}
use Rattle.std.specs.Prelude.{◌⊎◌, slice_get, slice_set, count_by, not, is_some, IsSome}
use Rattle.std.specs.FinMap.{from_entries}
use Rattle.std.proofs.lemmas.List.Sums.{sum_by-set}
use Rattle.std.proofs.lemmas.Option.{slice_get_within, get_or_from_slice_get}
use Rattle.list_laws.proofs.Tests.{same-or-other}
use Rattle.fact_store.specs.declared.slot.Slot.{Slot}
use Rattle.fact_values.specs.States.{State, same_given}
use Rattle.fact_values.specs.Values.{given_in, ComesFromTexts}
use Rattle.fact_store.specs.Slots.{named_texts, texts_of, AreDistinct, IsSound, AreSound, is_settled, owed}
use Rattle.fact_store.specs.Right.{outline, outlines, IsRight, is_fresh}
use Rattle.fact_store.proofs.Marks.{is_marked-set_other}
use Rattle.fact_store.proofs.Gifts.{is_fresh-settled}
use Rattle.fact_store.proofs.Pairs.{same_given-refl}
use Rattle.fact_store.proofs.SlotLemmas.{text_of-slot}

pub slice_get-set_same : {A : Type 0} (xs : List A) (i : ℕ) (x : A) → i < length xs → slice_get (slice_set xs i x) i ≡ Some x
slice_get-set_same [] i x l = absurd (omega arith)
slice_get-set_same (y ∷ xs) zero x l = refl
slice_get-set_same (y ∷ xs) (suc i) x l = slice_get-set_same xs i x (omega arith)

pub slice_get-set_other : {A : Type 0} (xs : List A) (i j : ℕ) (x : A) → j ≢ i → slice_get (slice_set xs i x) j ≡ slice_get xs j
slice_get-set_other [] i j x n = refl
slice_get-set_other (y ∷ xs) zero zero x n = absurd (n refl)
slice_get-set_other (y ∷ xs) zero (suc j) x n = refl
slice_get-set_other (y ∷ xs) (suc i) zero x n = refl
slice_get-set_other (y ∷ xs) (suc i) (suc j) x n = slice_get-set_other xs i j x (λ e. n (ap suc e))

module _ {Own F : Type 0} where
  pub outlines-set : (slots : List (Slot Own F)) (i : ℕ) (x y : Slot Own F) → slice_get slots i ≡ Some x → outline y ≡ outline x → outlines (slice_set slots i y) ≡ outlines slots
  outlines-set [] i x y e o = refl
  outlines-set (z ∷ slots) zero x y e o = let h : z ≡ x = cc in ap (λ p. p ∷ outlines slots) (o ∙ ap outline (sym h))
  outlines-set (z ∷ slots) (suc i) x y e o = ap (λ ps. outline z ∷ ps) (outlines-set slots i x y e o)

  -- texts are of outlines
  named_texts-outlines : (slots : List (Slot Own F)) → named_texts slots ≡ map (λ (o : List ℕ × List ℕ × Own × Option (List (List ℕ))). (o.0, o.1)) (outlines slots)
  named_texts-outlines [] = refl
  named_texts-outlines (x ∷ slots) = ap (λ ps. (x.name, x.bytes) ∷ ps) (named_texts-outlines slots)

  pub texts_of-same : (a b : List (Slot Own F)) → outlines a ≡ outlines b → texts_of a ≡ texts_of b
  texts_of-same a b e = ap from_entries (named_texts-outlines a ∙ ap (map (λ (o : List ℕ × List ℕ × Own × Option (List (List ℕ))). (o.0, o.1))) e ∙ sym (named_texts-outlines b))

  -- what stands at an index has an outline that stood there
  pub outline_at : (a b : List (Slot Own F)) (j : ℕ) (z : Slot Own F) → outlines a ≡ outlines b → slice_get a j ≡ Some z → (w : Slot Own F) × (slice_get b j ≡ Some w) × (outline w ≡ outline z)
  outline_at [] b j z e g = cc
  outline_at (x ∷ a) [] j z e g = cc
  outline_at (x ∷ a) (y ∷ b) zero z e g = let h : x ≡ z = cc in let o : outline x ≡ outline y = cc e in (y, refl, sym o ∙ ap outline h)
  outline_at (x ∷ a) (y ∷ b) (suc j) z e g = let o : outlines a ≡ outlines b = cc e in outline_at a b j z o g

  pub AreDistinct-same : (a b : List (Slot Own F)) → outlines a ≡ outlines b → AreDistinct b → AreDistinct a
  AreDistinct-same a b e d i j x y p q n =
      let u = outline_at a b i x e p in let v = outline_at a b j y e q in
      d i j u.0 v.0 u.1 v.1 (ap (λ (o : List ℕ × List ℕ × Own × Option (List (List ℕ))). o.0) u.2 ∙ n ∙ sym (ap (λ (o : List ℕ × List ℕ × Own × Option (List (List ℕ))). o.0) v.2))

  -- what stands after a write is what was written, or stood there
  pub set_cases : (slots : List (Slot Own F)) (i j : ℕ) (y z : Slot Own F) → i < length slots → slice_get (slice_set slots i y) j ≡ Some z → ((j ≡ i) × (y ≡ z)) ⊎ ((j ≢ i) × (slice_get slots j ≡ Some z))
  set_cases slots i j y z l e = elim (same-or-other j i) as (λ _. ((j ≡ i) × (y ≡ z)) ⊎ ((j ≢ i) × (slice_get slots j ≡ Some z))) [
    | inl same ↦ let h : ◌≡◌ {A = Option (Slot Own F)} (Some y) (Some z) = sym (ap (slice_get (slice_set slots i y)) same ∙ slice_get-set_same slots i y l) ∙ e in inl (same, cc)
    | inr other ↦ inr (other, sym (slice_get-set_other slots i j y other) ∙ e)
  ]

  module _ (own_of : List ℕ → List ℕ → Own) (needs_of : Own → Option (List (List ℕ))) (fact_of : List ℕ → Own → List (List ℕ × State F) → F) where
    pub AreSound-set : (slots : List (Slot Own F)) (i : ℕ) (x y : Slot Own F) → AreSound own_of needs_of fact_of slots → slice_get slots i ≡ Some x → outline y ≡ outline x → IsSound own_of needs_of fact_of y → AreSound own_of needs_of fact_of (slice_set slots i y)
    AreSound-set slots i x y s e o sy = record {
      each = λ j z g. elim (set_cases slots i j y z (slice_get_within slots i x e) g) as (λ _. IsSound own_of needs_of fact_of z) [
        | inl this ↦ subst (IsSound own_of needs_of fact_of) this.1 sy
        | inr past ↦ s.each j z past.1
      ];
      distinct = AreDistinct-same (slice_set slots i y) slots (outlines-set slots i x y e o) s.distinct;
    }

    module _ (same : F → F → Bool) where
      -- where the fact that was put in is settled, its mark can be set
      pub IsRight-set : (slots : List (Slot Own F)) (current : List Bool) (i : ℕ) (x y : Slot Own F) → IsRight own_of needs_of fact_of same slots current → slice_get slots i ≡ Some x → outline y ≡ outline x → IsSound own_of needs_of fact_of y → is_settled own_of needs_of fact_of same (texts_of slots) y ≡ true → IsRight own_of needs_of fact_of same (slice_set slots i y) (slice_set current i true)
      IsRight-set slots current i x y r e o sy settled = record {
        sound = AreSound-set slots i x y r.sound e o sy;
        settled = λ j z g m. ap (λ t. is_settled own_of needs_of fact_of same t z) (texts_of-same (slice_set slots i y) slots (outlines-set slots i x y e o))
            ∙ (elim (set_cases slots i j y z (slice_get_within slots i x e) g) as (λ _. is_settled own_of needs_of fact_of same (texts_of slots) z ≡ true) [
              | inl this ↦ ap (is_settled own_of needs_of fact_of same (texts_of slots)) (sym this.1) ∙ settled
              | inr past ↦ r.settled j z past.1 (sym (is_marked-set_other current i j true past.0) ∙ m)
            ]);
      }

      -- one name fewer is owed, or none, as the slot was
      pub owed-set : (slots : List (Slot Own F)) (i : ℕ) (x y : Slot Own F) → slice_get slots i ≡ Some x → outline y ≡ outline x → is_settled own_of needs_of fact_of same (texts_of slots) y ≡ true → owed own_of needs_of fact_of same (slice_set slots i y) + cond (not (is_settled own_of needs_of fact_of same (texts_of slots) x)) 1 0 ≡ owed own_of needs_of fact_of same slots
      owed-set slots i x y e o settled =
          let f : Slot Own F → ℕ = λ (s : Slot Own F). cond (not (is_settled own_of needs_of fact_of same (texts_of slots) s)) 1 0 in
          let t = ap (λ (m : _). count_by (λ (s : Slot Own F). not (is_settled own_of needs_of fact_of same m s)) (slice_set slots i y)) (texts_of-same (slice_set slots i y) slots (outlines-set slots i x y e o)) in
          let h = sum_by-set f slots i y x (slice_get_within slots i x e) in
          let g : f (get_or slots i x) ≡ f x = ap f (get_or_from_slice_get slots i x x e) in
          let z : f y ≡ 0 = ap (λ b. cond (not b) 1 0) settled in omega (arith, t, h, g, z)

      -- a step for a slot that was not fresh, and none for one that was
      pub owed-kept : (slots : List (Slot Own F)) (i : ℕ) (x y : Slot Own F) (given : List (List ℕ × State F)) (old new : ℕ) → AreSound own_of needs_of fact_of slots → slice_get slots i ≡ Some x → outline y ≡ outline x → given ≡ given_in own_of needs_of fact_of (texts_of slots) x.name → is_settled own_of needs_of fact_of same (texts_of slots) y ≡ true → new ≤ old + cond (is_fresh same x.kept given) 0 1 → new + owed own_of needs_of fact_of same (slice_set slots i y) ≤ old + owed own_of needs_of fact_of same slots
      owed-kept slots i x y given old new s e o eg settled step =
          let h = owed-set slots i x y e o settled in
          let f = is_fresh-settled own_of needs_of fact_of same slots x given (s.each i x e) eg in
          let turn : cond (is_fresh same x.kept given) 0 1 ≡ cond (not (is_settled own_of needs_of fact_of same (texts_of slots) x)) 1 0 = ap (λ b. cond b 0 1) f ∙ turned (is_settled own_of needs_of fact_of same (texts_of slots) x) in
          omega (arith, h, turn, step)
        where
          turned : (b : Bool) → ◌≡◌ {A = ℕ} (cond b 0 1) (cond (not b) 1 0)
          turned true = refl
          turned false = refl

      -- a fact that is fresh after it was kept is settled
      pub settled_from-fresh : (slots : List (Slot Own F)) (x y : Slot Own F) (given : List (List ℕ × State F)) → IsSound own_of needs_of fact_of y → outline y ≡ outline x → given ≡ given_in own_of needs_of fact_of (texts_of slots) x.name → is_fresh same y.kept given ≡ true → is_settled own_of needs_of fact_of same (texts_of slots) y ≡ true
      settled_from-fresh slots x y given sy o eg fresh =
          sym (is_fresh-settled own_of needs_of fact_of same slots y given sy (eg ∙ ap (given_in own_of needs_of fact_of (texts_of slots)) (sym (ap (λ (p : List ℕ × List ℕ × Own × Option (List (List ℕ))). p.0) o)))) ∙ fresh

      -- what a fact of a slot is derived from
      pub comes_from-slot : ((a : F) → same a a ≡ true) → (slots : List (Slot Own F)) (i : ℕ) (x : Slot Own F) (given : List (List ℕ × State F)) → AreSound own_of needs_of fact_of slots → slice_get slots i ≡ Some x → is_some x.needs ≡ true → given ≡ given_in own_of needs_of fact_of (texts_of slots) x.name → ComesFromTexts own_of needs_of fact_of same x.name x.own given
      comes_from-slot same_refl slots i x given s e some eg = record {
        texts = texts_of slots;
        bytes = x.bytes;
        text = text_of-slot slots i x s.distinct e;
        own_part = (s.each i x e).own_part;
        whole = subst (λ (o : Option (List (List ℕ))). IsSome o) (s.each i x e).needs_part (is_there x.needs some);
        alike = ap (same_given same given) (sym eg) ∙ same_given-refl same same_refl given;
      }
        where
          is_there : (o : Option (List (List ℕ))) → is_some o ≡ true → IsSome o
          is_there None h = cc
          is_there (Some ns) h = refl
