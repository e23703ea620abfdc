-- Tables of the names that can be named behind an instance.
use Rattle.std.proofs.Common.{◌≡◌, ℕ, ◌+◌, Option, Bool, true, false, cond, filter, drop, take, List, [], ◌∷◌, ◌++◌, None, Some, refl, ap, sym, ◌∙◌}
use Rattle.std.specs.Prelude.{slice_get, string_bytes, String}
use Rattle.std.specs.Str.{bytes_eq}
use Rattle.std.specs.String.{string_eq}
use Rattle.std.specs.declared.alloc.Global.{Global}
use Rattle.std.proofs.lemmas.List.{map-append}
use Rattle.std.proofs.lemmas.List.Elements.{filter-append}
use Rattle.indexmap.specs.IndexMap.{IndexMap, insert_entry}
use Rattle.indexmap.proofs.CallerLemmas.{insert_entry-new}
use Rattle.list_laws.proofs.Lists.{drop-at}
use Rattle.tla_symbols.specs.declared.op.Op.{Op}
use Rattle.tla_model.specs.Entities.{Meaning}
use Rattle.tla_model.specs.EntityKinds.{is_meant, stands_behind, words_meant}
use Rattle.tla_model.specs.Stretches.{words_of}
use Rattle.tla_model.specs.Tables.{AreNew, Named, Table, Word, Symbol, lookup}
use Rattle.tla_model.proofs.Stretching.{found-first, found-next, lookup-named, new-at, none-next, take-at}
use Rattle.module_model.specs.Exports.{exports_of, instantiable, of_symbols, of_words}
use Rattle.exact_faces.specs.Kept.{kept, kept_symbols}

-- ---- all of a list is kept

-- all is kept of a list if all is kept from a place on
abbrev pub IsAlone : {A : Type 0} → (A → Bool) → ℕ → List A → Type 0
IsAlone keep i xs = filter keep (drop i xs) ≡ drop i xs → filter keep xs ≡ xs

pub alone-next : {A : Type 0} (keep : A → Bool) (i : ℕ) (xs : List A) (x : A) → slice_get xs i ≡ Some x → keep x ≡ true → IsAlone keep i xs → IsAlone keep (i + 1) xs
alone-next keep i xs x at passes before rest =
    let next = drop-at xs i x at in
    let others = filter keep (drop (i + 1) xs) in
    before (ap (filter keep) next ∙ ap (λ (b : Bool). cond b (x ∷ others) others) passes ∙ ap (λ z. x ∷ z) rest ∙ sym next)

-- ---- what is kept of a list stands there once

module _ {K V : Type 0} (same : K → K → Bool) (keep : K × V → Bool) where
  none-before : (a b : List (K × V)) (key : K) → lookup same (a ++ b) key ≡ None → lookup same a key ≡ None
  none-before a b key none = by (lookup same a key) refl
    where
      by : (found : Option V) → lookup same a key ≡ found → lookup same a key ≡ None
      by None is = is
      by (Some value) is = let found = sym (found-first same a b key value is) ∙ none in cc

  none-kept : (xs : List (K × V)) (key : K) → lookup same xs key ≡ None → lookup same (filter keep xs) key ≡ None
  none-kept [] key none = refl
  none-kept (x ∷ xs) key none = by (keep x) (first (same key x.0) none) (none-kept xs key (none-next same (x ∷ []) xs key none))
    where
      first : (b : Bool) → cond b (Some x.1) (lookup same xs key) ≡ None → b ≡ false
      first true is = cc
      first false is = refl

      by : (b : Bool) → same key x.0 ≡ false → lookup same (filter keep xs) key ≡ None → lookup same (cond b (x ∷ filter keep xs) (filter keep xs)) key ≡ None
      by true other rest = ap (λ (z : Bool). cond z (Some x.1) (lookup same (filter keep xs) key)) other ∙ rest
      by false other rest = rest

  new-kept : (before others xs : List (K × V)) → ((key : K) → lookup same before key ≡ None → lookup same others key ≡ None) → AreNew same before xs → AreNew same others (filter keep xs)
  new-kept before others [] within new = tt
  new-kept before others (x ∷ xs) within new = by (keep x)
      (new-kept (before ++ x ∷ []) (others ++ x ∷ []) xs (λ key none. found-next same others (x ∷ []) key (within key (none-before before (x ∷ []) key none)) ∙ none-next same before (x ∷ []) key none) new.1)
      (new-kept (before ++ x ∷ []) others xs (λ key none. within key (none-before before (x ∷ []) key none)) new.1)
    where
      by : (b : Bool) → AreNew same (others ++ x ∷ []) (filter keep xs) → AreNew same others (filter keep xs) → AreNew same others (cond b (x ∷ filter keep xs) (filter keep xs))
      by true with-it without = (within x.0 new.0, with-it)
      by false with-it without = without

  pub once-kept : (xs : List (K × V)) → AreNew same [] xs → AreNew same [] (filter keep xs)
  once-kept xs new = new-kept [] [] xs (λ key none. none) new

  -- the next one is not among those that are kept of the ones before it
  pub next-new : (now xs : List (K × V)) (i : ℕ) (x : K × V) → AreNew same [] xs → slice_get xs i ≡ Some x → now ≡ filter keep (take i xs) → lookup same now x.0 ≡ None
  next-new now xs i x new at is = ap (λ z. lookup same z x.0) is ∙ none-kept (take i xs) x.0 (new-at same [] xs i x new at)

-- one more of those that are kept
pub kept-next : {A : Type 0} (keep : A → Bool) (now next xs : List A) (i : ℕ) (x : A) → slice_get xs i ≡ Some x → now ≡ filter keep (take i xs) → next ≡ now ++ filter keep (x ∷ []) → next ≡ filter keep (take (i + 1) xs)
kept-next keep now next xs i x at so is =
    is ∙ ap (λ z. z ++ filter keep (x ∷ [])) so ∙ sym (filter-append keep (take i xs) (x ∷ [])) ∙ ap (filter keep) (sym (take-at xs i x at))

-- a word that is not there goes last
pub word-put : {S : Type 0} (table : IndexMap (String Global) Meaning S) (rows : List (String Global × Meaning)) (key : String Global) (word : List ℕ) (value meaning : Meaning) →
    lookup bytes_eq (words_of table.entries) word ≡ None → string_bytes key ≡ word → value ≡ meaning → rows ≡ insert_entry string_eq table.entries key value →
    words_of rows ≡ words_of table.entries ++ (word, meaning) ∷ []
word-put table rows key word value meaning absent k v e =
    ap words_of (e ∙ insert_entry-new string_eq table key value (lookup-named string_bytes bytes_eq table.entries (string_bytes key) ∙ ap (λ z. lookup bytes_eq (words_of table.entries) z) k ∙ absent))
    ∙ map-append (λ (entry : String Global × Meaning). (string_bytes entry.0, entry.1)) table.entries ((key, value) ∷ [])
    ∙ (λ j. words_of table.entries ++ (k j, v j) ∷ [])

pub word-kept : (words : List (List ℕ × Meaning)) (word : List ℕ × Meaning) → true ≡ is_meant stands_behind word.1 → words ++ word ∷ [] ≡ words ++ words_meant stands_behind (word ∷ [])
word-kept words word passes = ap (λ (b : Bool). words ++ cond b (word ∷ []) []) passes

-- ---- tables

words-kept : (words : List (List ℕ × Meaning)) → instantiable (of_words words) ≡ of_words (words_meant stands_behind words)
words-kept [] = refl
words-kept (word ∷ words) = by (is_meant stands_behind word.1) (words-kept words)
  where
    by : (b : Bool) → instantiable (of_words words) ≡ of_words (words_meant stands_behind words)
        → cond b ((Word word.0, word.1) ∷ instantiable (of_words words)) (instantiable (of_words words)) ≡ of_words (cond b (word ∷ words_meant stands_behind words) (words_meant stands_behind words))
    by true rest = ap (λ z. (Word word.0, word.1) ∷ z) rest
    by false rest = rest

symbols-kept : (symbols : List (Op × Meaning)) → instantiable (of_symbols symbols) ≡ of_symbols (kept_symbols symbols)
symbols-kept [] = refl
symbols-kept (symbol ∷ symbols) = by (is_meant stands_behind symbol.1) (symbols-kept symbols)
  where
    by : (b : Bool) → instantiable (of_symbols symbols) ≡ of_symbols (kept_symbols symbols)
        → cond b ((Symbol symbol.0, symbol.1) ∷ instantiable (of_symbols symbols)) (instantiable (of_symbols symbols)) ≡ of_symbols (cond b (symbol ∷ kept_symbols symbols) (kept_symbols symbols))
    by true rest = ap (λ z. (Symbol symbol.0, symbol.1) ∷ z) rest
    by false rest = rest

-- what a table exports of what is kept are the definitions and instances of what it exports
pub table-kept : (table : Table Meaning) → exports_of (kept table) ≡ instantiable (exports_of table)
table-kept table = sym (
    filter-append (λ (entry : Named × Meaning). is_meant stands_behind entry.1) (of_words table.words) (of_symbols table.symbols)
    ∙ (λ i. words-kept table.words i ++ symbols-kept table.symbols i)
    )
