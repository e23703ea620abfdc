-- What stands on what is brought up first.
use Rattle.std.proofs.Common.{◌≡◌, ℕ, suc, ◌+◌, ◌<◌, ◌≤◌, Bool, true, false, List, [], ◌∷◌, Option, Some, refl, sym, ap, ◌∙◌, subst, inl, inr, length, nat_eq, arith}
use Rattle.std.specs.Prelude.{not, ◌⊎◌, slice_get, slice_index, unwrap_or}
use Rattle.std.proofs.lemmas.Bool.{and_from, cases_lt, eq-eqb}
use Rattle.std.proofs.lemmas.Option.{slice_get_within}
use Rattle.list_laws.proofs.Lists.{item-at}
use Rattle.index_graph.specs.Indices.{Has, Edge, AreReached}
use Rattle.index_graph.proofs.Lists.{at-same}
use Rattle.index_graph.proofs.Ways.{way-edge}
use Rattle.fact_store.specs.declared.slot.Slot.{Slot}
use Rattle.fact_store.specs.declared.plan.Plan.{Plan}
use Rattle.fact_values.specs.Names.{has}
use Rattle.fact_values.specs.States.{State}
use Rattle.fact_store.specs.Slots.{AreSound, owed}
use Rattle.fact_store.specs.Plans.{is_marked, IsRow}
use Rattle.fact_store.specs.Right.{outlines, IsPlan, IsDone, IsReady, Brings}
use Rattle.fact_store.proofs.Rows.{among-has}
use Rattle.fact_store.proofs.Groups.{group_falls}
use Rattle.fact_store.proofs.KeepLemmas.{outline_at}
use Rattle.fact_store.proofs.Bringing.{brings_then}

module _ {Own F : Type 0} where
  -- the plan of slots is that of slots with their outlines
  IsRow-same : (a b : List (Slot Own F)) (names : List (List ℕ)) (row : List ℕ) → outlines a ≡ outlines b → IsRow b names row → IsRow a names row
  IsRow-same a b names row e r = record {
    each = λ j slot g. let w = outline_at a b j slot e g in r.each j w.0 w.1 ∙ ap (λ (o : List ℕ × List ℕ × Own × Option (List (List ℕ))). has names o.0) w.2;
    within = λ k d l. omega (arith, r.within k d l, length-outlines a, length-outlines b, ap length e);
    once = r.once;
  }
    where
      length-outlines : (xs : List (Slot Own F)) → length (outlines xs) ≡ length xs
      length-outlines [] = refl
      length-outlines (x ∷ xs) = ap suc (length-outlines xs)

  pub length-outlines : (xs : List (Slot Own F)) → length (outlines xs) ≡ length xs
  length-outlines [] = refl
  length-outlines (x ∷ xs) = ap suc (length-outlines xs)

  pub IsPlan-same : (a b : List (Slot Own F)) (plan : Plan) → outlines a ≡ outlines b → IsPlan b plan → IsPlan a plan
  IsPlan-same a b plan e p = record {
    edges = record {
      long = omega (arith, p.edges.long, length-outlines a, length-outlines b, ap length e);
      rows = λ i row slot er es. let w = outline_at a b i slot e es in
          subst (λ (o : Option (List (List ℕ))). IsRow a (unwrap_or o []) row) (ap (λ (o : List ℕ × List ℕ × Own × Option (List (List ℕ))). o.3) w.2) (IsRow-same a b (unwrap_or (w.0).needs []) row e (p.edges.rows i row w.0 er w.1));
    };
    groups = p.groups;
    all = p.all;
    within = p.within;
    grounds = p.grounds;
  }

  -- what is done stays done where marks stay
  pub IsDone-kept : (a b : List (Slot Own F)) (old new : List Bool) (index : ℕ) (slot : Slot Own F) → outlines a ≡ outlines b → ((i : ℕ) → is_marked old i ≡ true → is_marked new i ≡ true) → ((x : Slot Own F) → slice_get b index ≡ Some x → IsDone old index x) → slice_get a index ≡ Some slot → IsDone new index slot
  IsDone-kept a b old new index slot e kept done g =
      let w = outline_at a b index slot e g in
      elim (done w.0 w.1) as (λ _. IsDone new index slot) [
        | inl none ↦ inl (sym (ap (λ (o : List ℕ × List ℕ × Own × Option (List (List ℕ))). o.3) w.2) ∙ none)
        | inr mark ↦ inr (kept index mark)
      ]

  -- each index before n in the order is done, if it is seen
  abbrev pub DoneBefore : List (Slot Own F) → List Bool → List Bool → List ℕ → ℕ → Type 0
  DoneBefore slots current seen order n = (k index : ℕ) → k < n → slice_get order k ≡ Some index → slice_get seen index ≡ Some true → (slot : Slot Own F) → slice_get slots index ≡ Some slot → IsDone current index slot

  module _ (own_of : List ℕ → List ℕ → Own) (needs_of : Own → Option (List (List ℕ))) (fact_of : List ℕ → Own → List (List ℕ × State F) → F) (slots : List (Slot Own F)) (sound : AreSound own_of needs_of fact_of slots) (current : List Bool) (plan : Plan) (is : IsPlan slots plan) (start : ℕ) (seen : List Bool) (reach : AreReached plan.grounds.items start seen) where
    -- a need that does not lead back is seen
    ground-seen : (i j : ℕ) (slot other : Slot Own F) → slice_get slots i ≡ Some slot → slice_get slots j ≡ Some other → has (unwrap_or slot.needs []) other.name ≡ true → nat_eq (slice_index plan.groups.items j) (slice_index plan.groups.items i) ≡ false → slice_get seen i ≡ Some true → slice_get seen j ≡ Some true
    ground-seen i j slot other at there need apart here =
        let l = slice_get_within slots i slot at in
        let row = item-at plan.edges.items i (omega (arith, l, is.edges.long)) in
        let ground = item-at plan.grounds.items i (omega (arith, l, is.edges.long, is.grounds.long)) in
        let in_row = (is.edges.rows i row.0 slot row.1 at).each j other there ∙ need in
        let step : Edge plan.grounds.items i j = (ground.0, ground.1, among-has ground.0 j ((is.grounds.rows i row.0 ground.0 row.1 ground.1).each j ∙ and_from _ _ in_row (ap not apart))) in
        reach.all j (way-edge plan.grounds.items start i j (reach.sound i here) step)

    -- the next index is ready
    pub IsReady-next : (n index : ℕ) → slice_get plan.order.items n ≡ Some index → slice_get seen index ≡ Some true → DoneBefore slots current seen plan.order.items n → IsReady slots plan.groups.items current index
    IsReady-next n index next here done slot at j other there need apart = choice (cases_lt at_j.0 n)
      where
        at_j : Has plan.order.items j
        at_j = is.all j (omega (arith, slice_get_within slots j other there, is.edges.long))

        choice : (at_j.0 < n) ⊎ (n ≤ at_j.0) → IsDone current j other
        choice (inl before) = done at_j.0 j before at_j.1 (ground-seen index j slot other at there need apart here) other there
        choice (inr after) =
            let rises = is.groups.rising n at_j.0 index j after next at_j.1 in
            let falls = group_falls own_of needs_of fact_of slots sound plan.edges.items is.edges plan.order.items plan.groups.items is.groups index j slot other at there need in
            let same : slice_index plan.groups.items j ≡ slice_index plan.groups.items index = omega (arith, rises, falls) in
            let t : true ≡ false = sym (eq-eqb _ _ same) ∙ apart in cc t

    -- in the end the start is done
    pub done-start : (n : ℕ) → length plan.order.items ≤ n → DoneBefore slots current seen plan.order.items n → (slot : Slot Own F) → slice_get slots start ≡ Some slot → IsDone current start slot
    done-start n over done slot at =
        let c = is.all start (omega (arith, slice_get_within slots start slot at, is.edges.long)) in
        done c.0 start (omega (arith, slice_get_within plan.order.items c.0 start c.1)) c.1 (reach.all start (inl refl)) slot at

    pub next-within : (n index : ℕ) → slice_get plan.order.items n ≡ Some index → index < length slots
    next-within n index next = omega (arith, is.within index (n, next), is.edges.long)

  -- one index more is done, or is not seen
  pub DoneBefore-more : (a b : List (Slot Own F)) (old new seen : List Bool) (order : List ℕ) (n index : ℕ) → outlines a ≡ outlines b → ((i : ℕ) → is_marked old i ≡ true → is_marked new i ≡ true) → DoneBefore b old seen order n → slice_get order n ≡ Some index → ((slot : Slot Own F) → slice_get seen index ≡ Some true → slice_get a index ≡ Some slot → IsDone new index slot) → DoneBefore a new seen order (n + 1)
  DoneBefore-more a b old new seen order n index e kept done next last k x lk g here slot at = elim (cases_lt k n) as (λ _. IsDone new x slot) [
    | inl before ↦ IsDone-kept a b old new x slot e kept (done k x before g here) at
    | inr after ↦
        let same : k ≡ n = omega arith in
        let z : index ≡ x = at-same order n index x next (ap (slice_get order) (sym same) ∙ g) in
        subst (λ q. (s : Slot Own F) → slice_get seen q ≡ Some true → slice_get a q ≡ Some s → IsDone new q s) z last slot here at
  ]

  module _ (own_of : List ℕ → List ℕ → Own) (needs_of : Own → Option (List (List ℕ))) (fact_of : List ℕ → Own → List (List ℕ × State F) → F) (same : F → F → Bool) (old : List (Slot Own F)) (before : List Bool) (first : ℕ) (seen : List Bool) (order : List ℕ) where
    -- what is known where the indices before n were brought up
    pub record IsBringing (slots : List (Slot Own F)) (current : List Bool) (steps n : ℕ) : Type 0 where
      pub brings : Brings own_of needs_of fact_of same old slots before current first steps
      pub done : DoneBefore slots current seen order n
      pub counted : steps + owed own_of needs_of fact_of same slots ≤ first + owed own_of needs_of fact_of same old

    -- the same in other words
    pub bringing-as : (slots slots' : List (Slot Own F)) (current current' : List Bool) (steps steps' n : ℕ) → slots' ≡ slots → current' ≡ current → steps' ≡ steps → IsBringing slots current steps n → IsBringing slots' current' steps' n
    bringing-as slots slots' current current' steps steps' n es ec et b =
        subst (λ (z : List (Slot Own F)). IsBringing z current' steps' n) (sym es) (subst (λ (z : List Bool). IsBringing slots z steps' n) (sym ec) (subst (λ (z : ℕ). IsBringing slots current z n) (sym et) b))

    -- an index that is not seen
    pub bringing-skip : (slots : List (Slot Own F)) (current : List Bool) (steps n index : ℕ) → IsBringing slots current steps n → slice_get order n ≡ Some index → slice_get seen index ≡ Some false → IsBringing slots current steps (n + 1)
    bringing-skip slots current steps n index b next off = record {
      brings = b.brings;
      done = DoneBefore-more slots slots current current seen order n index refl (λ i m. m) b.done next (λ slot on at. let k : true ≡ false = at-same seen index true false on off in cc k);
      counted = b.counted;
    }

    -- and one that was brought up
    pub bringing-more : (slots new : List (Slot Own F)) (current after : List Bool) (steps later n index : ℕ) → IsBringing slots current steps n → slice_get order n ≡ Some index → Brings own_of needs_of fact_of same slots new current after steps later
        → ((slot : Slot Own F) → slice_get new index ≡ Some slot → IsDone after index slot) → later + owed own_of needs_of fact_of same new ≤ steps + owed own_of needs_of fact_of same slots → IsBringing new after later (n + 1)
    bringing-more slots new current after steps later n index b next more last less = record {
      brings = brings_then own_of needs_of fact_of same old slots new before current after first steps later b.brings more;
      done = DoneBefore-more new slots current after seen order n index more.outline_kept more.kept b.done next (λ slot on at. last slot at);
      counted = omega (arith, less, b.counted);
    }
