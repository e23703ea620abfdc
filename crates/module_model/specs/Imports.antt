-- Imports under their names.
use Rattle.std.specs.Prelude.{◌≡◌, ℕ, List, Option, None, map, string_bytes, String}
use Rattle.std.specs.Str.{bytes_eq}
use Rattle.std.specs.declared.alloc.Global.{Global}
use Rattle.tla_model.specs.Tables.{lookup}
use Rattle.module_model.specs.declared.imported.Import.{Import}

-- each name with its import, in the order in which they were added
abbrev pub Imports : Type 0
Imports = List (List ℕ × Import)

-- the import under a name, if there is one
abbrev pub import_of : Imports → List ℕ → Option Import
import_of imports name = lookup bytes_eq imports name

-- no import stands under the name
abbrev pub HasNoImport : Imports → List ℕ → Type 0
HasNoImport imports name = import_of imports name ≡ None

-- the entries of a table, as names with imports
abbrev pub imports_of : List (String Global × Import) → Imports
imports_of entries = map (λ entry. (string_bytes entry.0, entry.1)) entries
