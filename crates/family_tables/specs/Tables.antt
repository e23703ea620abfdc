-- Tables under names.
use Rattle.std.specs.Prelude.{ℕ, Bool, List, Option, is_some, map, string_bytes, String}
use Rattle.std.specs.Str.{bytes_eq}
use Rattle.std.specs.declared.alloc.Global.{Global}
use Rattle.tla_model.specs.Tables.{lookup}

-- the rows of a table, as names with items
abbrev pub entries_of : {T : Type 0} → List (String Global × T) → List (List ℕ × T)
entries_of rows = map (λ row. (string_bytes row.0, row.1)) rows

-- the item under a name, if there is one
abbrev pub entry_of : {T : Type 0} → List (List ℕ × T) → List ℕ → Option T
entry_of entries name = lookup bytes_eq entries name

-- the names of a table, in their order
abbrev pub names_in : {T : Type 0} → List (List ℕ × T) → List (List ℕ)
names_in entries = map (λ entry. entry.0) entries

-- whether an item has a name
abbrev pub has_name : {T : Type 0} → List (List ℕ × T) → List ℕ → Bool
has_name entries name = is_some (entry_of entries name)
