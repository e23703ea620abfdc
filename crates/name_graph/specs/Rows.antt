-- Names in rows with what they need, and the indices where they stand.
use Rattle.std.specs.Prelude.{◌≡◌, ℕ, Bool, true, Option, Some, None, List, [], Contains, slice_get, map, filter_map, position, string_bytes, String}
use Rattle.std.specs.declared.alloc.Global.{Global}
use Rattle.std.specs.FinMap.{from_entries}
use Rattle.std.specs.Map.{keys_of}
use Rattle.std.specs.Str.{bytes_eq}
use Rattle.std.specs.declared.cmp.Ordering.TheVariants.{Less}
use Rattle.list_laws.specs.Distinct.{AreNamedApart}
use Rattle.name_graph.specs.Family.{Family, name_cmp}
use Rattle.index_graph.specs.Indices.{Has, Edges}

-- each name with the names that it needs, in the order in which the names were put
abbrev pub Rows : Type 0
Rows = List (String Global × List (List ℕ))

-- the rows with their names as bytes
abbrev pub named : Rows → List (List ℕ × List (List ℕ))
named rows = map (λ row. (string_bytes row.0, row.1)) rows

-- the family that rows are
abbrev pub family_of : Rows → Family
family_of rows = from_entries (named rows)

-- no name stands twice
abbrev pub AreDistinct : Rows → Type 0
AreDistinct rows = AreNamedApart (λ (row : String Global × List (List ℕ)). string_bytes row.0) rows

-- the name at an index
abbrev pub name_of : Option (String Global × List (List ℕ)) → List ℕ
name_of None = []
name_of (Some row) = string_bytes row.0

-- the name at an index, or no bytes where none stands there
abbrev pub name_at : Rows → ℕ → List ℕ
name_at rows index = name_of (slice_get rows index)

-- the index among these whose name is the first in byte order
pub record IsFirst (rows : Rows) (indices : List ℕ) (index : ℕ) : Type 0 where
  pub among : Has indices index
  pub first : (other : ℕ) → Has indices other → name_cmp (name_at rows other) (name_at rows index) ≡ Less → ⊥

-- where a name stands
abbrev pub index_of : Rows → List ℕ → Option ℕ
index_of rows name = position (λ key. bytes_eq name (string_bytes key)) (keys_of rows)

-- where these names stand, those of them that do
abbrev pub indices_of : Rows → List (List ℕ) → List ℕ
indices_of rows names = filter_map (index_of rows) names

-- the indices that each row needs
abbrev pub edges_of : Rows → Edges
edges_of rows = map (λ row. indices_of rows row.1) rows

-- a row that is seen needs the name
pub record SomeNeeds (rows : Rows) (seen : List Bool) (name : List ℕ) : Type 0 where
  pub index : ℕ
  pub row : String Global × List (List ℕ)
  pub marked : slice_get seen index ≡ Some true
  pub stands : slice_get rows index ≡ Some row
  pub needs : Contains row.1 name
