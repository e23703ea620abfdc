-- Instances that are found, as they are kept.
use Rattle.std.proofs.Common.{◌≡◌, ℕ, Bool, true, false, cond, nat_eq, List, [], ◌∷◌, ◌++◌, Option, Some, None, refl, ap, sym, ◌∙◌}
use Rattle.std.specs.Prelude.{◌&&◌, is_some, option_map}
use Rattle.std.specs.Arc.{arc_value}
use Rattle.std.specs.Borrow.{Bor}
use Rattle.std.specs.Map as entries
use Rattle.std.specs.Str.{bytes_eq}
use Rattle.std.specs.declared.sync.Arc.{Arc}
use Rattle.std.proofs.lemmas.List.{map-append}
use Rattle.indexmap.specs.IndexMap.{IndexMap, insert_entry}
use Rattle.indexmap.proofs.CallerLemmas.{insert_entry-new}
use Rattle.list_laws.proofs.Options.{none-there}
use Rattle.tla_model.specs.Entities.{Meaning, same_decl}
use Rattle.tla_model.specs.Tables.{Table, added, lookup}
use Rattle.exact_faces.specs.Found.{Tables, decl_of, tables_of}

abbrev pub Key : Type 0
Key = Bor (List ℕ) × ℕ

-- both keys are the same declaration
abbrev pub same_key : Key → Key → Bool
same_key a b = bytes_eq a.0.now b.0.now && nat_eq a.1 b.1

abbrev pub Kept : Type 0 → Type 0
Kept Z = Bor (Arc (Table Meaning) Z)

abbrev pub Row : Type 0 → Type 0
Row Z = Key × Kept Z

abbrev pub value_of : {Z : Type 0} → Kept Z → Table Meaning
value_of table = arc_value table.now

pub lookup-row : {Z : Type 0} (rows : List (Row Z)) (title : List ℕ) (place : ℕ) →
    option_map value_of (entries.lookup (λ (key : Key). bytes_eq title key.0.now && nat_eq place key.1) rows) ≡ lookup same_decl (tables_of rows) (decl_of title place)
lookup-row [] title place = refl
lookup-row (row ∷ rows) title place = by (bytes_eq title row.0.0.now && nat_eq place row.0.1) (lookup-row rows title place)
  where
    by : (b : Bool) → option_map value_of (entries.lookup (λ (key : Key). bytes_eq title key.0.now && nat_eq place key.1) rows) ≡ lookup same_decl (tables_of rows) (decl_of title place)
        → option_map value_of (cond b (Some row.1) (entries.lookup (λ (key : Key). bytes_eq title key.0.now && nat_eq place key.1) rows)) ≡ cond b (Some (arc_value row.1.now)) (lookup same_decl (tables_of rows) (decl_of title place))
    by true rest = refl
    by false rest = rest

some-mapped : {Z : Type 0} (found : Option (Kept Z)) → is_some (option_map value_of found) ≡ is_some found
some-mapped None = refl
some-mapped (Some table) = refl

-- whether it is there
pub row-there : {Z : Type 0} (rows : List (Row Z)) (found : Tables) (title : List ℕ) (place : ℕ) → tables_of rows ≡ found →
    is_some (lookup same_decl found (decl_of title place)) ≡ is_some (entries.lookup (λ (key : Key). bytes_eq title key.0.now && nat_eq place key.1) rows)
row-there rows found title place view =
    ap (λ z. is_some (lookup same_decl z (decl_of title place))) (sym view)
    ∙ ap is_some (sym (lookup-row rows title place))
    ∙ some-mapped (entries.lookup (λ (key : Key). bytes_eq title key.0.now && nat_eq place key.1) rows)

-- an instance that is there stays where it is
pub row-stays : {Z : Type 0} (rows : List (Row Z)) (found : Tables) (title : List ℕ) (place : ℕ) (table : Table Meaning) → tables_of rows ≡ found →
    true ≡ is_some (entries.lookup (λ (key : Key). bytes_eq title key.0.now && nat_eq place key.1) rows) → found ≡ added same_decl found (decl_of title place) table
row-stays rows found title place table view there =
    sym (ap (λ (b : Bool). cond b found (found ++ (decl_of title place, table) ∷ [])) (row-there rows found title place view ∙ sym there))

-- another one goes last
pub row-added : {S Z : Type 0} (kept : IndexMap Key (Kept Z) S) (found : Tables) (new : List (Row Z)) (title : Bor (List ℕ)) (place : ℕ) (table : Kept Z) → tables_of kept.entries ≡ found →
    false ≡ is_some (entries.lookup (same_key (title, place)) kept.entries) → new ≡ insert_entry same_key kept.entries (title, place) table → tables_of new ≡ added same_decl found (decl_of title.now place) (arc_value table.now)
row-added {Z = Z} kept found new title place table view none is =
    ap tables_of (is ∙ insert_entry-new same_key kept (title, place) table (none-there (entries.lookup (same_key (title, place)) kept.entries) (sym none)))
    ∙ map-append (λ (row : Row Z). (decl_of row.0.0.now row.0.1, arc_value row.1.now)) kept.entries (((title, place), table) ∷ [])
    ∙ ap (λ z. z ++ (decl_of title.now place, arc_value table.now) ∷ []) view
    ∙ sym (ap (λ (b : Bool). cond b found (found ++ (decl_of title.now place, arc_value table.now) ∷ [])) (row-there kept.entries found title.now place view ∙ sym none))
