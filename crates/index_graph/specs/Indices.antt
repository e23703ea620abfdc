-- Indices that need indices, by a row for each.
use Rattle.std.specs.Prelude.{◌≡◌, ◌<◌, ◌≤◌, ◌⊎◌, ◌↔◌, ℕ, Bool, true, List, Some, length, slice_get, slice_index}
use Rattle.index_graph.specs.Leading.{Leads}

-- it stands somewhere in the list
abbrev pub Has : {A : Type 0} → List A → A → Type 0
Has xs x = (i : ℕ) × (slice_get xs i ≡ Some x)

-- the indices that each index needs
abbrev pub Edges : Type 0
Edges = List (List ℕ)

-- an index needs another one
abbrev pub Edge : Edges → ℕ → ℕ → Type 0
Edge edges i j = (row : List ℕ) × (slice_get edges i ≡ Some row) × Has row j

-- no step, one or more
abbrev pub Way : Edges → ℕ → ℕ → Type 0
Way edges i j = (i ≡ j) ⊎ Leads (Edge edges) i j

-- each index that is needed is one of the indices
abbrev pub HasIndices : Edges → Type 0
HasIndices edges = (i j : ℕ) → Edge edges i j → j < length edges

-- the marks of the indices to which steps lead from the start, itself among them
pub record AreReached (edges : Edges) (start : ℕ) (seen : List Bool) : Type 0 where
  pub long : length seen ≡ length edges
  pub sound : (i : ℕ) → slice_get seen i ≡ Some true → Way edges start i
  pub all : (i : ℕ) → Way edges start i → slice_get seen i ≡ Some true

-- an index that does not reach itself, behind those that it needs
pub record IsBehind (edges : Edges) (order : List ℕ) (i : ℕ) (index : ℕ) : Type 0 where
  pub plain : Leads (Edge edges) index index → ⊥
  pub needs : (need : ℕ) → Edge edges index need → (j : ℕ) × (slice_get order j ≡ Some need) × (j < i)

-- each index once, and which of them reach themselves; each other one behind those that it needs
pub record IsOrdered (edges : Edges) (order cyclic : List ℕ) : Type 0 where
  pub all : (index : ℕ) → index < length edges → Has order index
  pub within : (index : ℕ) → Has order index → index < length edges
  pub once : (i j index : ℕ) → slice_get order i ≡ Some index → slice_get order j ≡ Some index → i ≡ j
  pub loops : (index : ℕ) → Has cyclic index → Has order index × Leads (Edge edges) index index
  pub others : (i index : ℕ) → slice_get order i ≡ Some index → Has cyclic index ⊎ IsBehind edges order i index

-- a number for each index: two have one exactly where each leads to the other, or they are one; a need has no greater number, so one that does not lead back has a smaller one; along the order numbers fall nowhere
pub record AreGrouped (edges : Edges) (order groups : List ℕ) : Type 0 where
  pub long : length groups ≡ length edges
  pub same : (i j : ℕ) → i < length edges → j < length edges → (slice_index groups i ≡ slice_index groups j) ↔ (Way edges i j × Way edges j i)
  pub needs : (i need : ℕ) → Edge edges i need → slice_index groups need ≤ slice_index groups i
  pub rising : (i j a b : ℕ) → i ≤ j → slice_get order i ≡ Some a → slice_get order j ≡ Some b → slice_index groups a ≤ slice_index groups b
