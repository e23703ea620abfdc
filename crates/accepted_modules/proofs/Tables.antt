-- What tables have where a name is put, and what entries have each name once.
use Rattle.std.proofs.Common.{◌≡◌, ℕ, Bool, true, false, cond, List, [], ◌∷◌, ◌++◌, ◌⊎◌, inl, inr, Option, Some, None, is_some, refl, sym, ap, subst, ◌∙◌}
use Rattle.std.specs.Prelude.{filter}
use Rattle.std.specs.List.{AllByRecursion}
use Rattle.std.specs.Str.{bytes_eq}
use denote.Enum.Bare.{same_true}
use Rattle.list_laws.proofs.Lists.{all-both}
use Rattle.list_laws.proofs.Texts.{same-text}
use Rattle.tla_symbols.specs.declared.op.Op.{Op}
use Rattle.tla_symbols.specs.contracts.op.Op as symbol_enum
use Rattle.tla_model.specs.Tables.{Table, Named, Word, Symbol, added, find, lookup, put, same_named, same_symbol}
use Rattle.tla_model.specs.Entities.{Meaning}
use Rattle.module_model.specs.Exports.{Exports, entry_of, exports_of, of_symbols, of_words}
use Rattle.flat_trees.proofs.Meanings.{named-equal, named-itself}
use Rattle.flat_kinds.specs.Declarations.{EachOnce, IsOnce}

-- ---- lists of keys and values

module _ {K V : Type 0} (same : K → K → Bool) where
  -- what is found where one is added was there, or it is that one
  added-finds : (entries : List (K × V)) (key : K) (value : V) (other : K) (found : V) → lookup same (added same entries key value) other ≡ Some found
      → (lookup same entries other ≡ Some found) ⊎ ((same other key ≡ true) × (value ≡ found))
  added-finds entries key value other found at = by (is_some (lookup same entries key)) at
    where
      behind : (before : List (K × V)) → lookup same (before ++ (key, value) ∷ []) other ≡ Some found → (lookup same before other ≡ Some found) ⊎ ((same other key ≡ true) × (value ≡ found))
      behind [] at = last (same other key) refl at
        where
          last : (b : Bool) → same other key ≡ b → cond b (Some value) None ≡ Some found → (None ≡ Some found) ⊎ ((same other key ≡ true) × (value ≡ found))
          last true e at = inr (e, cc)
          last false e at = inl at
      behind (entry ∷ rest) at = first (same other entry.0) (behind rest) at
        where
          first : (b : Bool) → (lookup same (rest ++ (key, value) ∷ []) other ≡ Some found → (lookup same rest other ≡ Some found) ⊎ ((same other key ≡ true) × (value ≡ found)))
              → cond b (Some entry.1) (lookup same (rest ++ (key, value) ∷ []) other) ≡ Some found → (cond b (Some entry.1) (lookup same rest other) ≡ Some found) ⊎ ((same other key ≡ true) × (value ≡ found))
          first true rest at = inl at
          first false rest at = rest at

      by : (b : Bool) → lookup same (cond b entries (entries ++ (key, value) ∷ [])) other ≡ Some found → (lookup same entries other ≡ Some found) ⊎ ((same other key ≡ true) × (value ≡ found))
      by true at = inl at
      by false at = behind entries at

  front-finds : (front back : List (K × V)) (key : K) (found : V) → lookup same front key ≡ Some found → lookup same (front ++ back) key ≡ Some found
  front-finds [] back key found at = absurd (cc)
  front-finds (entry ∷ rest) back key found at = by (same key entry.0) at (front-finds rest back key found)
    where
      by : (b : Bool) → cond b (Some entry.1) (lookup same rest key) ≡ Some found → (lookup same rest key ≡ Some found → lookup same (rest ++ back) key ≡ Some found) → cond b (Some entry.1) (lookup same (rest ++ back) key) ≡ Some found
      by true at later = at
      by false at later = later at

  -- what is found stays where one is added
  added-keeps : (entries : List (K × V)) (key : K) (value : V) (other : K) (found : V) → lookup same entries other ≡ Some found → lookup same (added same entries key value) other ≡ Some found
  added-keeps entries key value other found at = by (is_some (lookup same entries key))
    where
      by : (b : Bool) → lookup same (cond b entries (entries ++ (key, value) ∷ [])) other ≡ Some found
      by true = at
      by false = front-finds entries ((key, value) ∷ []) other found at

  -- ---- keys once

  none-each : (entries : List (K × V)) (key : K) → lookup same entries key ≡ None → AllByRecursion (λ (entry : K × V). same key entry.0 ≡ false) entries
  none-each [] key none = tt
  none-each (entry ∷ rest) key none = by (same key entry.0) refl none (none-each rest key)
    where
      by : (b : Bool) → same key entry.0 ≡ b → cond b (Some entry.1) (lookup same rest key) ≡ None → (lookup same rest key ≡ None → AllByRecursion (λ (other : K × V). same key other.0 ≡ false) rest) → (same key entry.0 ≡ false) × AllByRecursion (λ (other : K × V). same key other.0 ≡ false) rest
      by true is none others = absurd (cc none)
      by false is none others = (is, others none)

  each-more : (entries : List (K × V)) (key : K) (value : V) → EachOnce same entries → AllByRecursion (λ (entry : K × V). same key entry.0 ≡ false) entries → EachOnce same (entries ++ (key, value) ∷ [])
  each-more [] key value once apart = (tt, tt)
  each-more (entry ∷ rest) key value once apart =
      (all-both (λ (other : K × V). same other.0 entry.0 ≡ false) rest ((key, value) ∷ []) once.0 (apart.0, tt), each-more rest key value once.1 apart.1)

  added-once : (entries : List (K × V)) (key : K) (value : V) → EachOnce same entries → EachOnce same (added same entries key value)
  added-once entries key value once = by (lookup same entries key) refl
    where
      by : (found : Option V) → lookup same entries key ≡ found → EachOnce same (cond (is_some found) entries (entries ++ (key, value) ∷ []))
      by None is = each-more entries key value once (none-each entries key is)
      by (Some other) is = once

-- those that pass a test
pub all-passing : {A : Type 0} (P : A → Type 0) (test : A → Bool) (xs : List A) → AllByRecursion P xs → AllByRecursion P (filter test xs)
all-passing P test [] all = tt
all-passing {A} P test (x ∷ xs) all = by (test x) (all-passing P test xs all.1)
  where
    by : (b : Bool) → AllByRecursion P (filter test xs) → AllByRecursion P (cond b (x ∷ filter test xs) (filter test xs))
    by true later = (all.0, later)
    by false later = later

pub once-passing : (test : Named × Meaning → Bool) (entries : Exports) → EachOnce same_named entries → EachOnce same_named (filter test entries)
once-passing test [] once = tt
once-passing test (entry ∷ rest) once = by (test entry) (once-passing test rest once.1)
  where
    by : (b : Bool) → EachOnce same_named (filter test rest) → EachOnce same_named (cond b (entry ∷ filter test rest) (filter test rest))
    by true later = (all-passing (λ (other : Named × Meaning). same_named other.0 entry.0 ≡ false) test rest once.0, later)
    by false later = later

-- ---- tables

pub put-finds : {V : Type 0} (table : Table V) (name : Named) (value : V) (other : Named) (found : V) → find (put table name value) other ≡ Some found → (find table other ≡ Some found) ⊎ ((other ≡ name) × (value ≡ found))
put-finds table (Word bytes) value (Word other) found at = by (added-finds bytes_eq table.words bytes value other found at)
  where
    by : (lookup bytes_eq table.words other ≡ Some found) ⊎ ((bytes_eq other bytes ≡ true) × (value ≡ found)) → (lookup bytes_eq table.words other ≡ Some found) ⊎ ((Word other ≡ Word bytes) × (value ≡ found))
    by (inl before) = inl before
    by (inr new) = inr (ap Word (same-text other bytes new.0), new.1)
put-finds table (Symbol op) value (Symbol other) found at = by (added-finds same_symbol table.symbols op value other found at)
  where
    by : (lookup same_symbol table.symbols other ≡ Some found) ⊎ ((same_symbol other op ≡ true) × (value ≡ found)) → (lookup same_symbol table.symbols other ≡ Some found) ⊎ ((Symbol other ≡ Symbol op) × (value ≡ found))
    by (inl before) = inl before
    by (inr new) = inr (ap Symbol (same_true symbol_enum.the_type tt other op new.0), new.1)
put-finds table (Word bytes) value (Symbol other) found at = inl at
put-finds table (Symbol op) value (Word other) found at = inl at

pub put-keeps : {V : Type 0} (table : Table V) (name : Named) (value : V) (other : Named) (found : V) → find table other ≡ Some found → find (put table name value) other ≡ Some found
put-keeps table (Word bytes) value (Word other) found at = added-keeps bytes_eq table.words bytes value other found at
put-keeps table (Symbol op) value (Symbol other) found at = added-keeps same_symbol table.symbols op value other found at
put-keeps table (Word bytes) value (Symbol other) found at = at
put-keeps table (Symbol op) value (Word other) found at = at

pub put-once : (table : Table Meaning) (name : Named) (m : Meaning) → IsOnce table → IsOnce (put table name m)
put-once table (Word bytes) m once = (added-once bytes_eq table.words bytes m once.0, once.1)
put-once table (Symbol op) m once = (once.0, added-once same_symbol table.symbols op m once.1)

-- ---- what tables export

apart-symbols : (symbols : List (Op × Meaning)) (bytes : List ℕ) → AllByRecursion (λ (entry : Named × Meaning). same_named entry.0 (Word bytes) ≡ false) (of_symbols symbols)
apart-symbols [] bytes = tt
apart-symbols (symbol ∷ rest) bytes = (refl, apart-symbols rest bytes)

apart-words : (words : List (List ℕ × Meaning)) (bytes : List ℕ) → AllByRecursion (λ (word : List ℕ × Meaning). bytes_eq word.0 bytes ≡ false) words → AllByRecursion (λ (entry : Named × Meaning). same_named entry.0 (Word bytes) ≡ false) (of_words words)
apart-words [] bytes all = tt
apart-words (word ∷ rest) bytes all = (all.0, apart-words rest bytes all.1)

apart-others : (symbols : List (Op × Meaning)) (op : Op) → AllByRecursion (λ (symbol : Op × Meaning). same_symbol symbol.0 op ≡ false) symbols → AllByRecursion (λ (entry : Named × Meaning). same_named entry.0 (Symbol op) ≡ false) (of_symbols symbols)
apart-others [] op all = tt
apart-others (symbol ∷ rest) op all = (all.0, apart-others rest op all.1)

symbols-once : (symbols : List (Op × Meaning)) → EachOnce same_symbol symbols → EachOnce same_named (of_symbols symbols)
symbols-once [] once = tt
symbols-once (symbol ∷ rest) once = (apart-others rest symbol.0 once.0, symbols-once rest once.1)

words-once : (words : List (List ℕ × Meaning)) (symbols : List (Op × Meaning)) → EachOnce bytes_eq words → EachOnce same_symbol symbols → EachOnce same_named (of_words words ++ of_symbols symbols)
words-once [] symbols once others = symbols-once symbols others
words-once (word ∷ rest) symbols once others =
    (all-both (λ (entry : Named × Meaning). same_named entry.0 (Word word.0) ≡ false) (of_words rest) (of_symbols symbols) (apart-words rest word.0 once.0) (apart-symbols symbols word.0), words-once rest symbols once.1 others)

pub table-once : (table : Table Meaning) → IsOnce table → EachOnce same_named (exports_of table)
table-once table once = words-once table.words table.symbols once.0 once.1

-- ---- entries

-- a name with what it means is one of these entries
abbrev pub IsThere : Exports → Named → Meaning → Type 0
IsThere [] name m = ⊥
IsThere (entry ∷ rest) name m = ((entry.0 ≡ name) × (entry.1 ≡ m)) ⊎ IsThere rest name m

pub there-holds : (P : Named × Meaning → Type 0) (entries : Exports) (name : Named) (m : Meaning) → AllByRecursion P entries → IsThere entries name m → P (name, m)
there-holds P [] name m all one = absurd one
there-holds P (entry ∷ rest) name m all (inl same) = subst (λ n. P (n, m)) same.0 (subst (λ other. P (entry.0, other)) same.1 all.0)
there-holds P (entry ∷ rest) name m all (inr one) = there-holds P rest name m all.1 one

pub there-passed : (test : Named × Meaning → Bool) (entries : Exports) (name : Named) (m : Meaning) → IsThere (filter test entries) name m → IsThere entries name m × (test (name, m) ≡ true)
there-passed test [] name m one = absurd one
there-passed test (entry ∷ rest) name m one = by (test entry) refl (there-passed test rest name m) one
  where
    by : (b : Bool) → test entry ≡ b → (IsThere (filter test rest) name m → IsThere rest name m × (test (name, m) ≡ true)) → IsThere (cond b (entry ∷ filter test rest) (filter test rest)) name m → IsThere (entry ∷ rest) name m × (test (name, m) ≡ true)
    by true is others (inl same) = (inl same, subst (λ n. test (n, m) ≡ true) same.0 (subst (λ other. test (entry.0, other) ≡ true) same.1 is))
    by true is others (inr later) = let passed = others later in (inr passed.0, passed.1)
    by false is others later = let passed = others later in (inr passed.0, passed.1)

-- where each name is once, it has this entry
pub there-first : (entries : Exports) (name : Named) (m : Meaning) → EachOnce same_named entries → IsThere entries name m → entry_of entries name ≡ Some m
there-first [] name m once one = absurd one
there-first (entry ∷ rest) name m once (inl same) =
    subst (λ n. cond (same_named n entry.0) (Some entry.1) (entry_of rest n) ≡ Some m) same.0
    (ap (λ b. cond b (Some entry.1) (entry_of rest entry.0)) (named-itself entry.0) ∙ ap Some same.1)
there-first (entry ∷ rest) name m once (inr one) =
    ap (λ b. cond b (Some entry.1) (entry_of rest name)) (there-holds (λ (other : Named × Meaning). same_named other.0 entry.0 ≡ false) rest name m once.0 one)
    ∙ there-first rest name m once.1 one

-- what is an entry of a name is there under it
pub entry-there : (entries : Exports) (name : Named) (m : Meaning) → entry_of entries name ≡ Some m → IsThere entries name m
entry-there [] name m at = absurd (cc)
entry-there (entry ∷ rest) name m at = by (same_named name entry.0) refl (entry-there rest name m) at
  where
    by : (b : Bool) → same_named name entry.0 ≡ b → (entry_of rest name ≡ Some m → IsThere rest name m) → cond b (Some entry.1) (entry_of rest name) ≡ Some m → IsThere (entry ∷ rest) name m
    by true is later at = inl (sym (named-equal name entry.0 is), cc at)
    by false is later at = inr (later at)
