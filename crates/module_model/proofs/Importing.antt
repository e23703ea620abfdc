-- Entries of a table, as names with imports.
use Rattle.std.proofs.Common.{◌≡◌, ℕ, List, [], ◌∷◌, ◌++◌, Option, Some, None, refl, ap, ◌∙◌, cond}
use Rattle.std.specs.Prelude.{string_bytes, String}
use Rattle.std.specs.Map.{lookup}
use Rattle.std.specs.Str.{bytes_eq}
use Rattle.std.specs.String.{string_eq}
use Rattle.std.specs.declared.alloc.Global.{Global}
use Rattle.indexmap.specs.IndexMap.{IndexMap, insert_entry}
use Rattle.indexmap.proofs.CallerLemmas.{insert_entry-new}
use Rattle.module_model.specs.declared.imported.Import.{Import}
use Rattle.module_model.specs.Imports.{Imports, import_of, imports_of, HasNoImport}

abbrev pub Row : Type 0
Row = String Global × Import

pub lookup-named : (rows : List Row) (name : List ℕ) → lookup (λ (key : String Global). bytes_eq name (string_bytes key)) rows ≡ import_of (imports_of rows) name
lookup-named [] name = refl
lookup-named (row ∷ rows) name = ap (λ (rest : Option Import). cond (bytes_eq name (string_bytes row.0)) (Some row.1) rest) (lookup-named rows name)

imports_of-append : (rows : List Row) (row : Row) → imports_of (rows ++ row ∷ []) ≡ imports_of rows ++ (string_bytes row.0, row.1) ∷ []
imports_of-append [] row = refl
imports_of-append (first ∷ rows) row = ap (λ (rest : Imports). (string_bytes first.0, first.1) ∷ rest) (imports_of-append rows row)

-- a name without an import goes last
pub imports_of-added : {S : Type 0} (table : IndexMap (String Global) Import S) (rows : List Row) (key : String Global) (import : Import) (imports : Imports) (name : List ℕ) → string_bytes key ≡ name → imports_of table.entries ≡ imports → HasNoImport imports name → rows ≡ insert_entry string_eq table.entries key import → imports_of rows ≡ imports ++ (name, import) ∷ []
imports_of-added table rows key import imports name k v none e =
    let absent : import_of (imports_of table.entries) (string_bytes key) ≡ None = (λ i. import_of (v i) (k i)) ∙ none in
    ap imports_of (e ∙ insert_entry-new string_eq table key import (lookup-named table.entries (string_bytes key) ∙ absent))
    ∙ imports_of-append table.entries (key, import)
    ∙ (λ i. v i ++ (k i, import) ∷ [])
