-- How slots stand in a slab, under keys that an index has by their names.
use Rattle.std.specs.Prelude.{◌≡◌, ℕ, List, Some, filter_map, length, slice_get, string_bytes, String}
use Rattle.std.specs.declared.alloc.Global.{Global}
use Rattle.slab.specs.Slab.{Slab, get, slab_len}
use Rattle.fact_store.specs.declared.slot.Slot.{Slot}

-- each name with the key of its slot, in the order in which the names came
abbrev pub Names : Type 0
Names = List (String Global × ℕ)

module _ {Own F : Type 0} where
  -- the slots, in the order of their names
  abbrev pub shelved : Slab (Slot Own F) → Names → List (Slot Own F)
  shelved slab names = filter_map (λ e. get slab e.1) names

  -- the index holds each name once, with the key of the slot that has it; what no name leads to is
  -- vacant, as the key of a slot that was removed
  pub record IsShelf (slab : Slab (Slot Own F)) (names : Names) : Type 0 where
    pub found : (i : ℕ) (e : String Global × ℕ) → slice_get names i ≡ Some e → (slot : Slot Own F) × (get slab e.1 ≡ Some slot) × (slot.name ≡ string_bytes e.0)
    pub once : (i j : ℕ) (a b : String Global × ℕ) → slice_get names i ≡ Some a → slice_get names j ≡ Some b → string_bytes a.0 ≡ string_bytes b.0 → i ≡ j
    pub apart : (i j : ℕ) (a b : String Global × ℕ) → slice_get names i ≡ Some a → slice_get names j ≡ Some b → a.1 ≡ b.1 → i ≡ j
    pub vacant : slab_len slab ≡ length names
