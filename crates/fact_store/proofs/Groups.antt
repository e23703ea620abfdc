-- Steps over indices are needs of names, and numbers of groups tell which needs lead back.
use Rattle.std.proofs.Common.{◌≡◌, ℕ, ◌≤◌, true, false, List, [], Option, Some, None, refl, sym, ap, ◌∙◌, inl, inr, arith, nat_eq}
use Rattle.std.specs.Prelude.{◌↔◌, slice_get, slice_index, unwrap_or}
use Rattle.std.specs.FinMap.{get, keys}
use Rattle.std.proofs.lemmas.Bool.{eqb-true, eq-eqb}
use Rattle.std.proofs.lemmas.Option.{slice_get_within}
use Rattle.std.specs.Cmp.{both_ways}
use Rattle.list_laws.proofs.Lists.{item-at}
use Rattle.index_graph.specs.Leading.{Leads, last, more}
use Rattle.index_graph.specs.Indices.{Edges, Edge, Way, AreGrouped}
use Rattle.index_graph.proofs.Lists.{at-same}
use Rattle.index_graph.proofs.Ways.{way-edge}
use Rattle.fact_store.specs.declared.slot.Slot.{Slot}
use Rattle.fact_values.specs.Names.{has}
use Rattle.fact_values.specs.States.{State}
use Rattle.fact_values.specs.Values.{needs_of_text, needs_in, reaches}
use Rattle.fact_store.specs.Slots.{texts_of, AreSound}
use Rattle.fact_store.specs.Plans.{IsRow, AreEdges}
use Rattle.fact_values.proofs.ReachLemmas.{leads-refl, leads-need, leads-step, reaches_from-leads, closed_under-reach}
use Rattle.fact_values.proofs.ValueLemmas.{needs_in-none}
use Rattle.fact_store.proofs.SlotLemmas.{slot_with, text_of-slot}
use Rattle.fact_store.proofs.Rows.{slot_at, among-at, among-has, HasIndices-edges}

module _ {Own F : Type 0} (own_of : List ℕ → List ℕ → Own) (needs_of : Own → Option (List (List ℕ))) (fact_of : List ℕ → Own → List (List ℕ × State F) → F) (slots : List (Slot Own F)) (sound : AreSound own_of needs_of fact_of slots) where
  -- the needs of a slot's name are the slot's
  pub needs_in-slot : (i : ℕ) (slot : Slot Own F) → slice_get slots i ≡ Some slot → needs_in own_of needs_of fact_of (texts_of slots) slot.name ≡ unwrap_or slot.needs []
  needs_in-slot i slot e =
      let s = sound.each i slot e in
      ap (needs_of_text own_of needs_of fact_of slot.name) (text_of-slot slots i slot sound.distinct e) ∙ ap (λ (o : Option (List (List ℕ))). unwrap_or o []) (ap needs_of (sym s.own_part) ∙ sym s.needs_part)

  closed : (a : List ℕ) → has (keys (texts_of slots)) a ≡ false → needs_in own_of needs_of fact_of (texts_of slots) a ≡ []
  closed = needs_in-none own_of needs_of fact_of (texts_of slots)

  module _ (edges : Edges) (is : AreEdges slots edges) where
    row_at : (i : ℕ) (slot : Slot Own F) → slice_get slots i ≡ Some slot → (row : List ℕ) × (slice_get edges i ≡ Some row) × IsRow slots (unwrap_or slot.needs []) row
    row_at i slot e = let r = item-at edges i (omega (arith, slice_get_within slots i slot e, is.long)) in (r.0, r.1, is.rows i r.0 slot r.1 e)

    -- an index needs those whose names its slot needs
    pub need-edge : (i j : ℕ) (x y : Slot Own F) → slice_get slots i ≡ Some x → slice_get slots j ≡ Some y → has (unwrap_or x.needs []) y.name ≡ true → Edge edges i j
    need-edge i j x y ex ey h = let r = row_at i x ex in (r.0, r.1, among-has r.0 j (r.2.each j y ey ∙ h))

    edge-need : (i j : ℕ) (x y : Slot Own F) → slice_get slots i ≡ Some x → slice_get slots j ≡ Some y → Edge edges i j → has (needs_in own_of needs_of fact_of (texts_of slots) x.name) y.name ≡ true
    edge-need i j x y ex ey d =
        let r = is.rows i d.0 x d.1 ex in
        ap (λ (ns : List (List ℕ)). has ns y.name) (needs_in-slot i x ex) ∙ sym (r.each j y ey) ∙ among-at d.0 d.2.0 j d.2.1

    leads-reach : (i j : ℕ) (x y : Slot Own F) → slice_get slots i ≡ Some x → slice_get slots j ≡ Some y → Leads (Edge edges) i j → reaches own_of needs_of fact_of (texts_of slots) x.name y.name ≡ true
    leads-reach i j x y ex ey (last d) = leads-need (needs_in own_of needs_of fact_of (texts_of slots)) (keys (texts_of slots)) x.name y.name (edge-need i j x y ex ey d)
    leads-reach i j x y ex ey (more {b = k} d l) =
        let z = slot_at slots k (omega (arith, HasIndices-edges slots edges is i k d, is.long)) in
        leads-step (needs_in own_of needs_of fact_of (texts_of slots)) (keys (texts_of slots)) closed x.name (z.0).name y.name (edge-need i k x z.0 ex z.1 d) (leads-reach k j z.0 y z.1 ey l)

    pub way-reaches : (i j : ℕ) (x y : Slot Own F) → slice_get slots i ≡ Some x → slice_get slots j ≡ Some y → Way edges i j → reaches own_of needs_of fact_of (texts_of slots) x.name y.name ≡ true
    way-reaches i j x y ex ey (inl same) =
        let s = at-same slots i x y ex (ap (slice_get slots) same ∙ ey) in
        ap (λ (z : Slot Own F). reaches own_of needs_of fact_of (texts_of slots) x.name z.name) (sym s) ∙ leads-refl (needs_in own_of needs_of fact_of (texts_of slots)) (keys (texts_of slots)) x.name
    way-reaches i j x y ex ey (inr l) = leads-reach i j x y ex ey l

    -- steps lead to the slots of the names that a name reaches
    module _ (i : ℕ) (x : Slot Own F) (at : slice_get slots i ≡ Some x) where
      AllReached : List ℕ → Type 0
      AllReached n = (k : ℕ) (z : Slot Own F) → slice_get slots k ≡ Some z → z.name ≡ n → Way edges i k

      step : (a b : List ℕ) → AllReached a → has (needs_in own_of needs_of fact_of (texts_of slots) a) b ≡ true → AllReached b
      unfolding AllReached
      step a b pa h k z e n = text (get (texts_of slots) a) refl
        where
          text : (t : Option (List ℕ)) → get (texts_of slots) a ≡ t → Way edges i k
          text None et = let f : false ≡ true = ap (λ (ns : List (List ℕ)). has ns b) (sym (ap (needs_of_text own_of needs_of fact_of a) et)) ∙ h in cc f
          text (Some bytes) et =
              let w = slot_with slots a bytes et in
              let need : has (unwrap_or w.slot.needs []) z.name ≡ true = ap (λ (ns : List (List ℕ)). has ns z.name) (sym (needs_in-slot w.index w.slot w.at)) ∙ ap (λ (q : List ℕ). has (needs_in own_of needs_of fact_of (texts_of slots) q) z.name) w.named ∙ ap (has (needs_in own_of needs_of fact_of (texts_of slots) a)) n ∙ h in
              way-edge edges i w.index k (pa w.index w.slot w.at w.named) (need-edge w.index k w.slot z w.at e need)

      pub reaches-way : (j : ℕ) (y : Slot Own F) → slice_get slots j ≡ Some y → reaches own_of needs_of fact_of (texts_of slots) x.name y.name ≡ true → Way edges i j
      unfolding AllReached
      reaches-way j y e l =
          let p = reaches_from-leads (needs_in own_of needs_of fact_of (texts_of slots)) (keys (texts_of slots)) x.name y.name l in
          closed_under-reach (needs_in own_of needs_of fact_of (texts_of slots)) AllReached step p.0 x.name y.name p.1 start j y e refl
        where
          start : AllReached x.name
          start k z ez n = inl (sym (sound.distinct k i z x ez at n))

    -- a need is of no greater group, and of the same exactly where it leads back
    module _ (order groups : List ℕ) (g : AreGrouped edges order groups) (i j : ℕ) (x y : Slot Own F) (at : slice_get slots i ≡ Some x) (there : slice_get slots j ≡ Some y) (need : has (unwrap_or x.needs []) y.name ≡ true) where
      edge : Edge edges i j
      edge = need-edge i j x y at there need

      pub group_falls : slice_index groups j ≤ slice_index groups i
      group_falls = g.needs i j edge

      pub group_tells : nat_eq (slice_index groups j) (slice_index groups i) ≡ reaches own_of needs_of fact_of (texts_of slots) y.name x.name
      group_tells = both_ways _ _ (λ e. way-reaches j i y x there at (both.0 (eqb-true _ _ e)).0) (λ l. eq-eqb _ _ (both.1 (reaches-way j y there i x at l, inr (last edge))))
        where
          both : (slice_index groups j ≡ slice_index groups i) ↔ (Way edges j i × Way edges i j)
          both = g.same j i (omega (arith, slice_get_within slots j y there, is.long)) (omega (arith, slice_get_within slots i x at, is.long))
