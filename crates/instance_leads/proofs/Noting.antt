-- Tables of declarations as they are kept.
use Rattle.std.proofs.Common.{◌≡◌, ℕ, Bool, true, false, cond, drop, get_or, zero, suc, position, nat_eq, List, [], ◌∷◌, ◌++◌, Option, Some, None, refl, ap, sym, ◌∙◌}
use Rattle.std.specs.Prelude.{◌&&◌, ◌+◌, is_some, slice_get}
use Rattle.list_laws.proofs.Lists.{drop-at}
use Rattle.std.specs.Borrow.{Bor}
use Rattle.std.specs.Map as entries
use Rattle.std.specs.Map.{keys_of}
use Rattle.std.specs.Str.{bytes_eq}
use Rattle.std.proofs.lemmas.List.Quantifiers.{position-Some}
use Rattle.std.proofs.lemmas.List.{map-append}
use Rattle.indexmap.specs.IndexMap.{IndexMap, insert_entry}
use Rattle.indexmap.proofs.CallerLemmas.{insert_entry-new}
use Rattle.tla_model.specs.declared.ids.DeclId.{DeclId}
use Rattle.tla_model.specs.Entities.{same_decl}
use Rattle.tla_model.specs.Tables.{added, lookup}
use Rattle.tla_model.specs.Same.{decl-equal}
use Rattle.tree_tasks.specs.declared.held.Held.{Held}
use Rattle.name_context.proofs.Words.{added-new, added-there}
use Rattle.instance_leads.specs.Keys.{decl_of, joined_leads, leads_of}

abbrev pub Key : Type 0
Key = Bor (List ℕ) × ℕ

-- both keys are the same declaration
abbrev pub same_key : Key → Key → Bool
same_key a b = bytes_eq a.0.now b.0.now && nat_eq a.1 b.1

pub lookup-noted : (rows : List (Key × Held)) (title : List ℕ) (place : ℕ) → entries.lookup (λ (key : Key). bytes_eq title key.0.now && nat_eq place key.1) rows ≡ lookup same_decl (leads_of rows) (decl_of title place)
lookup-noted [] title place = refl
lookup-noted (row ∷ rows) title place = ap (λ (rest : Option Held). cond (bytes_eq title row.0.0.now && nat_eq place row.0.1) (Some row.1) rest) (lookup-noted rows title place)

-- a declaration that is there stays where it is
pub noted-there : (leads : List (DeclId × Held)) (rows : List (Key × Held)) (title : List ℕ) (place : ℕ) (held : Held) → leads_of rows ≡ leads → true ≡ is_some (entries.lookup (λ (key : Key). bytes_eq title key.0.now && nat_eq place key.1) rows) → leads ≡ added same_decl leads (decl_of title place) held
noted-there leads rows title place held view there =
    added-there same_decl leads (decl_of title place) held (ap is_some (ap (λ z. lookup same_decl z (decl_of title place)) (sym view) ∙ sym (lookup-noted rows title place)) ∙ sym there)

none-found : {A : Type 0} (found : Option A) → false ≡ is_some found → found ≡ None
none-found None none = refl
none-found (Some x) none = cc

-- another one goes last
pub noted-new : {S : Type 0} (leads : List (DeclId × Held)) (table : IndexMap Key Held S) (new : List (Key × Held)) (key : Key) (held : Held) → leads_of table.entries ≡ leads → false ≡ is_some (entries.lookup (same_key key) table.entries) → new ≡ insert_entry same_key table.entries key held → leads_of new ≡ added same_decl leads (decl_of key.0.now key.1) held
noted-new leads table new key held view none is =
    ap leads_of (is ∙ insert_entry-new same_key table key held (none-found (entries.lookup (same_key key) table.entries) none))
    ∙ map-append (λ (entry : Key × Held). (decl_of entry.0.0.now entry.0.1, entry.1)) table.entries ((key, held) ∷ [])
    ∙ ap (λ z. z ++ (decl_of key.0.now key.1, held) ∷ []) view
    ∙ added-new same_decl leads (decl_of key.0.now key.1) held
    (ap is_some (ap (λ z. lookup same_decl z (decl_of key.0.now key.1)) (sym view) ∙ sym (lookup-noted table.entries key.0.now key.1)) ∙ sym none)

-- one more of others is noted
pub join-next : (start now new : List (DeclId × Held)) (rows : List (Key × Held)) (i : ℕ) (key : Key) (held : Held) → slice_get rows i ≡ Some (key, held) → joined_leads now (leads_of (drop i rows)) ≡ joined_leads start (leads_of rows) → new ≡ added same_decl now (decl_of key.0.now key.1) held →
    joined_leads new (leads_of (drop (i + 1) rows)) ≡ joined_leads start (leads_of rows)
join-next start now new rows i key held at so is =
    ap (λ z. joined_leads z (leads_of (drop (i + 1) rows))) is ∙ ap (λ z. joined_leads now (leads_of z)) (sym (drop-at rows i (key, held) at)) ∙ so

-- the key at the place where one that is the same is found
key-there : (rows : List (Key × Held)) (i : ℕ) (key d : Key) (held : Held) → slice_get rows i ≡ Some (key, held) → get_or (keys_of rows) i d ≡ key
key-there [] i key d held at = cc
key-there (row ∷ rows) zero key d held at = first row (key, held) at
  where
    first : (a b : Key × Held) → Some a ≡ Some b → a.0 ≡ b.0
    first a b e = let same : a ≡ b = cc in ap (λ z. z.0) same
key-there (row ∷ rows) (suc i) key d held at = key-there rows i key d held at

pub key-same : (rows : List (Key × Held)) (i : ℕ) (key : Key) (held : Held) (title : List ℕ) (decl : DeclId) → Some i ≡ position (λ (other : Key). bytes_eq title other.0.now && nat_eq decl.place other.1) (keys_of rows) → title ≡ decl.«module» → slice_get rows i ≡ Some (key, held) → decl_of key.0.now key.1 ≡ decl
key-same rows i key held title decl is same at =
    let test = λ (other : Key). bytes_eq title other.0.now && nat_eq decl.place other.1 in
    let found = position-Some test (keys_of rows) i key (sym is) in
    let passes : same_decl (decl_of title decl.place) (decl_of key.0.now key.1) ≡ true = ap test (sym (key-there rows i key key held at)) ∙ found.1 in
    sym (decl-equal (decl_of title decl.place) (decl_of key.0.now key.1) passes) ∙ (λ i. decl_of (same i) decl.place)
