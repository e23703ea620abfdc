-- What a store keeps true.
use Rattle.std.specs.Prelude.{◌≡◌, ℕ, ◌<◌, ◌≤◌, ◌⊎◌, Bool, true, false, ◌&&◌, List, Option, Some, None, length, map, slice_get, slice_set, slice_index, nat_eq, is_none, unwrap_or, []}
use Rattle.fact_store.specs.declared.slot.Slot.{Slot}
use Rattle.fact_store.specs.declared.slot.Kept.{Kept}
use Rattle.fact_store.specs.declared.given.Input.{Input}
use Rattle.fact_store.specs.declared.plan.Plan.{Plan}
use Rattle.fact_values.specs.Names.{has}
use Rattle.fact_values.specs.States.{State, same_given}
use Rattle.fact_store.specs.Given.{states}
use Rattle.fact_store.specs.Slots.{texts_of, IsSound, AreSound, is_settled}
use Rattle.index_graph.specs.Indices.{Has, AreGrouped}
use Rattle.fact_store.specs.Plans.{is_marked, AreEdges, AreGrounds}

-- whether a fact was made from the present text, and what was given then is like this
abbrev pub is_fresh : {F : Type 0} → (F → F → Bool) → Option (Kept F) → List (List ℕ × State F) → Bool
is_fresh same None given = false
is_fresh same (Some kept) given = is_none kept.from && same_given same (states kept.given) given

-- a fact with this in place of what was given when it was made
abbrev pub with_given : {F : Type 0} → Option (Kept F) → List (List ℕ × Input F) → Option (Kept F)
with_given None given = None
with_given (Some kept) given = Some (record kept { given = given })

module _ {Own F : Type 0} where
  -- a slot but for its fact
  abbrev pub outline : Slot Own F → List ℕ × List ℕ × Own × Option (List (List ℕ))
  outline slot = (slot.name, slot.bytes, slot.own, slot.needs)

  -- the same of all slots
  abbrev pub outlines : List (Slot Own F) → List (List ℕ × List ℕ × Own × Option (List (List ℕ)))
  outlines slots = map outline slots

  -- the plan is that of these slots
  pub record IsPlan (slots : List (Slot Own F)) (plan : Plan) : Type 0 where
    pub edges : AreEdges slots plan.edges.items
    pub groups : AreGrouped plan.edges.items plan.order.items plan.groups.items
    pub all : (index : ℕ) → index < length plan.edges.items → Has plan.order.items index
    pub within : (index : ℕ) → Has plan.order.items index → index < length plan.edges.items
    pub grounds : AreGrounds plan.edges.items plan.groups.items plan.grounds.items

  -- a plan is that of these slots, if there is one
  abbrev pub HoldsPlan : List (Slot Own F) → Option Plan → Type 0
  HoldsPlan slots None = Unit {0}
  HoldsPlan slots (Some plan) = IsPlan slots plan

  -- nothing is to be made of this slot: it is broken, or its fact stands
  abbrev pub IsDone : List Bool → ℕ → Slot Own F → Type 0
  IsDone current index slot = (slot.needs ≡ None) ⊎ (is_marked current index ≡ true)

  -- each need of this index that does not lead back is done
  abbrev pub IsReady : List (Slot Own F) → List ℕ → List Bool → ℕ → Type 0
  IsReady slots groups current index =
      (slot : Slot Own F) → slice_get slots index ≡ Some slot →
      (j : ℕ) (other : Slot Own F) → slice_get slots j ≡ Some other → has (unwrap_or slot.needs []) other.name ≡ true →
      nat_eq (slice_index groups j) (slice_index groups index) ≡ false → IsDone current j other

  module _ (own_of : List ℕ → List ℕ → Own) (needs_of : Own → Option (List (List ℕ))) (fact_of : List ℕ → Own → List (List ℕ × State F) → F) (same : F → F → Bool) where
    -- the slots are sound, and the facts that stand are those of the present texts
    pub record IsRight (slots : List (Slot Own F)) (current : List Bool) : Type 0 where
      pub sound : AreSound own_of needs_of fact_of slots
      pub settled : (i : ℕ) (slot : Slot Own F) → slice_get slots i ≡ Some slot → is_marked current i ≡ true → is_settled own_of needs_of fact_of same (texts_of slots) slot ≡ true

    -- what a store keeps true of its slots, its plan and its marks
    pub record IsStore (slots : List (Slot Own F)) (plan : Option Plan) (current : List Bool) : Type 0 where
      pub right : IsRight slots current
      pub planned : HoldsPlan slots plan
      pub marks : length current ≤ length slots

    -- bringing facts up keeps the outlines, what is right, and the marks that are set
    pub record Brings (old new : List (Slot Own F)) (before after : List Bool) (first last : ℕ) : Type 0 where
      pub outline_kept : outlines new ≡ outlines old
      pub right : IsRight new after
      pub marks : length after ≡ length before
      pub kept : (i : ℕ) → is_marked before i ≡ true → is_marked after i ≡ true
      pub rises : first ≤ last

    -- of the slots one was brought up to what its needs give: its fact is fresh then, and all else stays
    pub record Keeps (old new : List (Slot Own F)) (index : ℕ) (slot : Slot Own F) (given : List (List ℕ × State F)) : Type 0 where
      pub after : Slot Own F
      pub written : new ≡ slice_set old index after
      pub outline_kept : outline after ≡ outline slot
      pub sound : IsSound own_of needs_of fact_of after
      pub fresh : is_fresh same after.kept given ≡ true
