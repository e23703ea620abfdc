-- Rows of a table, as names with items.
use Rattle.std.proofs.Common.{◌≡◌, ℕ, zero, suc, List, [], ◌∷◌, ◌++◌, Option, Some, None, refl, sym, ap, ◌∙◌, cond, arith, true, false, Bool, ⊎_elim}
use Rattle.std.specs.Prelude.{string_bytes, String, Contains, is_some, option_copied}
use Rattle.std.specs.Borrow.{Bor}
use Rattle.std.proofs.lemmas.Bool.{cases_Bool}
use Rattle.std.specs.Map.{lookup}
use Rattle.std.specs.Str.{bytes_eq}
use Rattle.std.specs.String.{string_eq}
use Rattle.std.specs.declared.alloc.Global.{Global}
use Rattle.indexmap.specs.IndexMap.{IndexMap, insert_entry}
use Rattle.indexmap.proofs.CallerLemmas.{insert_entry-new}
use Rattle.list_laws.proofs.Texts.{same-text, text-itself}
use Rattle.family_tables.specs.Tables.{entries_of, entry_of, names_in}

pub lookup-named : {T : Type 0} (rows : List (String Global × T)) (name : List ℕ) → lookup (λ (key : String Global). bytes_eq name (string_bytes key)) rows ≡ entry_of (entries_of rows) name
lookup-named [] name = refl
lookup-named {T} (row ∷ rows) name = ap (λ (rest : Option T). cond (bytes_eq name (string_bytes row.0)) (Some row.1) rest) (lookup-named rows name)

entries_of-append : {T : Type 0} (rows : List (String Global × T)) (row : String Global × T) → entries_of (rows ++ row ∷ []) ≡ entries_of rows ++ (string_bytes row.0, row.1) ∷ []
entries_of-append [] row = refl
entries_of-append {T} (first ∷ rows) row = ap (λ (rest : List (List ℕ × T)). (string_bytes first.0, first.1) ∷ rest) (entries_of-append rows row)

-- a name without an item goes last
pub entries_of-added : {T S : Type 0} (table : IndexMap (String Global) T S) (rows : List (String Global × T)) (key : String Global) (item : T) (entries : List (List ℕ × T)) (name : List ℕ) → string_bytes key ≡ name → entries_of table.entries ≡ entries → entry_of entries name ≡ None → rows ≡ insert_entry string_eq table.entries key item → entries_of rows ≡ entries ++ (name, item) ∷ []
entries_of-added {T} table rows key item entries name k v none e =
    let absent : entry_of (entries_of table.entries) (string_bytes key) ≡ None = (λ i. entry_of (v i) (k i)) ∙ none in
    ap entries_of (e ∙ insert_entry-new string_eq table key item (lookup-named table.entries (string_bytes key) ∙ absent))
    ∙ entries_of-append table.entries (key, item)
    ∙ (λ i. v i ++ (k i, item) ∷ [])

-- ---- look-ups

-- an item stands under its name
pub entry-found : {T : Type 0} (entries : List (List ℕ × T)) (name : List ℕ) (item : T) → entry_of entries name ≡ Some item → Contains entries (name, item)
entry-found [] name item e = cc
entry-found {T} (entry ∷ rest) name item e = ⊎_elim
    (λ (t : bytes_eq name entry.0 ≡ true).
    let same : entry.1 ≡ item = (let k : Some entry.1 ≡ Some item = sym (ap (λ (b : Bool). cond b (Some entry.1) (entry_of rest name)) t) ∙ e in cc) in
    (0, (omega arith), λ i. (sym (same-text name entry.0 t) i, same i)))
    (λ (f : bytes_eq name entry.0 ≡ false).
    let r = entry-found rest name item (sym (ap (λ (b : Bool). cond b (Some entry.1) (entry_of rest name)) f) ∙ e) in
    (suc r.0, (omega (arith, r.1)), r.2))
    (cases_Bool (bytes_eq name entry.0))

-- where there is none no entry has the name
pub entry-none : {T : Type 0} (entries : List (List ℕ × T)) (name : List ℕ) → (Contains (names_in entries) name → ⊥) → entry_of entries name ≡ None
entry-none [] name h = refl
entry-none {T} (entry ∷ rest) name h = ⊎_elim
    (λ (t : bytes_eq name entry.0 ≡ true). absurd (h (0, (omega arith), sym (same-text name entry.0 t))))
    (λ (f : bytes_eq name entry.0 ≡ false).
    ap (λ (b : Bool). cond b (Some entry.1) (entry_of rest name)) f ∙ entry-none rest name (λ k. h (suc k.0, (omega (arith, k.1)), k.2)))
    (cases_Bool (bytes_eq name entry.0))

-- a name that an entry has is found
pub entry-some : {T : Type 0} (entries : List (List ℕ × T)) (name : List ℕ) → Contains (names_in entries) name → (item : T) × (entry_of entries name ≡ Some item)
entry-some [] name h = absurd (omega (arith, h.1))
entry-some {T} (entry ∷ rest) name h = ⊎_elim
    (λ (t : bytes_eq name entry.0 ≡ true). (entry.1, ap (λ (b : Bool). cond b (Some entry.1) (entry_of rest name)) t))
    (λ (f : bytes_eq name entry.0 ≡ false).
    let r = entry-some rest name (beyond h f) in
    (r.0, ap (λ (b : Bool). cond b (Some entry.1) (entry_of rest name)) f ∙ r.1))
    (cases_Bool (bytes_eq name entry.0))
  where
    beyond : Contains (names_in (entry ∷ rest)) name → bytes_eq name entry.0 ≡ false → Contains (names_in rest) name
    beyond (zero, l, e) f = let k : true ≡ false = sym (text-itself name entry.0 (sym e)) ∙ f in cc
    beyond (suc i, l, e) f = (i, (omega (arith, l)), e)

-- what is looked up is there, or not
pub gone : {T : Type 0} (o : Option (Bor T)) (x : Option T) → is_some o ≡ false → option_copied o ≡ x → x ≡ None
gone None x f s = sym s
gone (Some y) x f s = let k : true ≡ false = f in cc

pub held : {T : Type 0} (o : Option (Bor T)) (x : Option T) → is_some o ≡ true → option_copied o ≡ x → is_some x ≡ true
held None x t s = let k : false ≡ true = t in cc
held (Some y) x t s = ap is_some (sym s)

-- an item under a name that has none
pub entry-append : {T : Type 0} (entries : List (List ℕ × T)) (name item : List ℕ) (o : T) → entry_of entries item ≡ None → entry_of (entries ++ (item, o) ∷ []) name ≡ cond (bytes_eq name item) (Some o) (entry_of entries name)
entry-append [] name item o none = refl
entry-append {T} (entry ∷ entries) name item o none = ⊎_elim
    (λ (t : bytes_eq item entry.0 ≡ true). let k : Some entry.1 ≡ None = sym (ap (λ b. cond b (Some entry.1) (entry_of entries item)) t) ∙ none in cc)
    (λ (f : bytes_eq item entry.0 ≡ false).
    let rest : entry_of entries item ≡ None = sym (ap (λ b. cond b (Some entry.1) (entry_of entries item)) f) ∙ none in
    ap (λ x. cond (bytes_eq name entry.0) (Some entry.1) x) (entry-append entries name item o rest)
    ∙ apart (bytes_eq name entry.0) (bytes_eq name item) (λ a b. let k : true ≡ false = sym (text-itself item entry.0 (sym (same-text name item b) ∙ same-text name entry.0 a)) ∙ f in cc) (Some entry.1) (Some o) (entry_of entries name))
    (cases_Bool (bytes_eq item entry.0))
  where
    apart : (a b : Bool) → (a ≡ true → b ≡ true → ⊥) → (x y z : Option T) → cond a x (cond b y z) ≡ cond b y (cond a x z)
    apart true true n x y z = absurd (n refl refl)
    apart true false n x y z = refl
    apart false b n x y z = refl
