-- What is found of the present texts: who needs whom, and what each fact stands on.
use Rattle.std.specs.Prelude.{◌≡◌, ℕ, ◌<◌, ◌&&◌, Bool, false, not, List, Option, Some, None, All, length, slice_get, slice_index, nat_eq, unwrap_or, if◌then◌else◌, [], ◌∷◌, ◌++◌}
use Rattle.std.specs.List.{list_any}
use Rattle.index_graph.specs.Indices.{Edges}
use Rattle.fact_store.specs.declared.slot.Slot.{Slot}
use Rattle.fact_values.specs.Names.{has}

-- whether an index is among these
abbrev pub among : List ℕ → ℕ → Bool
among indices index = list_any (nat_eq index) indices

-- an index is marked; one beyond the marks is not
abbrev pub is_marked : List Bool → ℕ → Bool
is_marked marks i = got (slice_get marks i)
  where
    got : Option Bool → Bool
    got None = false
    got (Some mark) = mark

-- a row with an index in it, at its end where it was not there
abbrev pub row_with : List ℕ → ℕ → List ℕ
row_with row index = if among row index then row else row ++ index ∷ []

module _ {Own F : Type 0} where
  -- the indices of the slots that these names name, each once
  pub record IsRow (slots : List (Slot Own F)) (names : List (List ℕ)) (row : List ℕ) : Type 0 where
    pub each : (j : ℕ) (slot : Slot Own F) → slice_get slots j ≡ Some slot → among row j ≡ has names slot.name
    pub within : All (λ index. index < length slots) row
    pub once : (i j index : ℕ) → slice_get row i ≡ Some index → slice_get row j ≡ Some index → i ≡ j

  -- for each slot the indices of those that it needs
  pub record AreEdges (slots : List (Slot Own F)) (edges : Edges) : Type 0 where
    pub long : length edges ≡ length slots
    pub rows : (i : ℕ) (row : List ℕ) (slot : Slot Own F) → slice_get edges i ≡ Some row → slice_get slots i ≡ Some slot → IsRow slots (unwrap_or slot.needs []) row

-- of the indices in a row, those of another group: what an index of this group stands on
pub record IsGround (groups : List ℕ) (group : ℕ) (row ground : List ℕ) : Type 0 where
  pub each : (j : ℕ) → among ground j ≡ (among row j && not (nat_eq (slice_index groups j) group))
  pub within : All (λ index. index < length groups) ground

-- for each index those that it needs and that do not lead back
pub record AreGrounds (edges : Edges) (groups : List ℕ) (grounds : Edges) : Type 0 where
  pub long : length grounds ≡ length edges
  pub rows : (i : ℕ) (row ground : List ℕ) → slice_get edges i ≡ Some row → slice_get grounds i ≡ Some ground → IsGround groups (slice_index groups i) row ground
