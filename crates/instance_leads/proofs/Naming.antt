-- Entries of tables by their names, and those of a kind among them.
use Rattle.std.proofs.Common.{◌≡◌, ◌<◌, ℕ, Bool, true, false, cond, filter, List, [], ◌∷◌, ◌++◌, IfOk, OnOk, Ok, Err, Result, Option, Some, None, append_assoc, drop, get_or, length, map, take, refl, ap, sym, subst, ◌∙◌}
use Rattle.std.specs.Prelude.{◌&&◌, ◌+◌}
use Rattle.std.specs.List.{AllByRecursion}
use Rattle.std.specs.Str.{bytes_eq}
use Rattle.std.specs.Borrow.{Bor}
use Rattle.std.proofs.lemmas.List.{map-append, take_more}
use Rattle.tla_model.specs.Stretches.{shown}
use Rattle.std.proofs.Math.Seq.{take-length}
use Rattle.list_laws.proofs.Lists.{drop-from}
use Rattle.list_laws.proofs.Texts.{same-text}
use Rattle.std.proofs.lemmas.Slice.Eq.{bytes_eq-Decides}
use Rattle.tla_symbols.specs.declared.op.Op.{Op}
use Rattle.tla_model.specs.Entities.{Entity, Meaning}
use Rattle.tla_model.specs.EntityKinds.{is_meant, words_meant}
use Rattle.tla_model.specs.Tables.{AreNew, Named, Word, Symbol, Table, find, lookup, same_symbol}
use Rattle.tla_model.proofs.Stretching.{found-first, found-next}
use Rattle.module_model.specs.Exports.{entry_of, exports_of, of_symbols, of_words}
use Rattle.module_model.proofs.Entries.{entry-of-table}
use Rattle.name_exports.proofs.Bringing.{of_words-append}
use Rattle.instance_leads.specs.Found.{if_kept}

-- ---- entries of a kind

keep-more : {A : Type 0} (kept : Bool) (x : A) (all a b : List A) → all ≡ a ++ b → cond kept (x ∷ all) all ≡ cond kept (x ∷ a) a ++ b
keep-more true x all a b is = ap (λ z. x ∷ z) is
keep-more false x all a b is = is

pub filter-append : {A : Type 0} (keep : A → Bool) (a b : List A) → filter keep (a ++ b) ≡ filter keep a ++ filter keep b
filter-append keep [] b = refl
filter-append keep (x ∷ a) b = keep-more (keep x) x (filter keep (a ++ b)) (filter keep a) (filter keep b) (filter-append keep a b)

abbrev pub symbols_meant : (Entity → Bool) → List (Op × Meaning) → List (Op × Meaning)
symbols_meant which symbols = filter (λ symbol. is_meant which symbol.1) symbols

pub kept-words : (which : Entity → Bool) (words : List (List ℕ × Meaning)) → filter (λ (entry : Named × Meaning). is_meant which entry.1) (of_words words) ≡ of_words (words_meant which words)
kept-words which [] = refl
kept-words which (word ∷ words) = by (is_meant which word.1) (kept-words which words)
  where
    by : (b : Bool) → filter (λ (entry : Named × Meaning). is_meant which entry.1) (of_words words) ≡ of_words (words_meant which words)
        → cond b ((Word word.0, word.1) ∷ filter (λ (entry : Named × Meaning). is_meant which entry.1) (of_words words)) (filter (λ (entry : Named × Meaning). is_meant which entry.1) (of_words words)) ≡ of_words (cond b (word ∷ words_meant which words) (words_meant which words))
    by true rest = ap (λ z. (Word word.0, word.1) ∷ z) rest
    by false rest = rest

pub kept-symbols : (which : Entity → Bool) (symbols : List (Op × Meaning)) → filter (λ (entry : Named × Meaning). is_meant which entry.1) (of_symbols symbols) ≡ of_symbols (symbols_meant which symbols)
kept-symbols which [] = refl
kept-symbols which (symbol ∷ symbols) = by (is_meant which symbol.1) (kept-symbols which symbols)
  where
    by : (b : Bool) → filter (λ (entry : Named × Meaning). is_meant which entry.1) (of_symbols symbols) ≡ of_symbols (symbols_meant which symbols)
        → cond b ((Symbol symbol.0, symbol.1) ∷ filter (λ (entry : Named × Meaning). is_meant which entry.1) (of_symbols symbols)) (filter (λ (entry : Named × Meaning). is_meant which entry.1) (of_symbols symbols)) ≡ of_symbols (cond b (symbol ∷ symbols_meant which symbols) (symbols_meant which symbols))
    by true rest = ap (λ z. (Symbol symbol.0, symbol.1) ∷ z) rest
    by false rest = rest

-- the table of those of a kind
abbrev pub table_meant : (Entity → Bool) → Table Meaning → Table Meaning
table_meant which table = record { words = words_meant which table.words; symbols = symbols_meant which table.symbols }

pub kept-table : (which : Entity → Bool) (table : Table Meaning) → filter (λ (entry : Named × Meaning). is_meant which entry.1) (exports_of table) ≡ exports_of (table_meant which table)
kept-table which table =
    filter-append (λ (entry : Named × Meaning). is_meant which entry.1) (of_words table.words) (of_symbols table.symbols)
    ∙ (λ i. kept-words which table.words i ++ kept-symbols which table.symbols i)

pub entry-kept : (which : Entity → Bool) (table : Table Meaning) (name : Named) → entry_of (filter (λ (entry : Named × Meaning). is_meant which entry.1) (exports_of table)) name ≡ find (table_meant which table) name
entry-kept which table name = ap (λ z. entry_of z name) (kept-table which table) ∙ entry-of-table (table_meant which table) name

-- ---- no key twice

module _ {K V : Type 0} (same : K → K → Bool) (equal : (a b : K) → same a b ≡ true → a ≡ b) where
  -- a key that is found before is found nowhere else
  pub none-behind : (before rest : List (K × V)) (key : K) (value : V) → AreNew same before rest → lookup same before key ≡ Some value → lookup same rest key ≡ None
  none-behind before [] key value new found = refl
  none-behind before (entry ∷ rest) key value new found =
      by (same key entry.0) refl (none-behind (before ++ entry ∷ []) rest key value new.1 (found-first same before (entry ∷ []) key value found))
    where
      by : (b : Bool) → same key entry.0 ≡ b → lookup same rest key ≡ None → cond b (Some entry.1) (lookup same rest key) ≡ None
      by true is none = let e = sym (ap (λ k. lookup same before k) (equal key entry.0 is)) ∙ found in let no = sym new.0 ∙ e in cc
      by false is none = none

  none-kept : (keep : K × V → Bool) (entries : List (K × V)) (key : K) → lookup same entries key ≡ None → lookup same (filter keep entries) key ≡ None
  none-kept keep [] key none = refl
  none-kept keep (entry ∷ rest) key none = by (same key entry.0) refl (none-kept keep rest key)
    where
      dropped : same key entry.0 ≡ false → lookup same (filter keep rest) key ≡ None → (b : Bool) → lookup same (cond b (entry ∷ filter keep rest) (filter keep rest)) key ≡ None
      dropped is gone true = ap (λ (z : Bool). cond z (Some entry.1) (lookup same (filter keep rest) key)) is ∙ gone
      dropped is gone false = gone

      by : (b : Bool) → same key entry.0 ≡ b → (lookup same rest key ≡ None → lookup same (filter keep rest) key ≡ None) → lookup same (filter keep (entry ∷ rest)) key ≡ None
      by true is gone = let e = sym (ap (λ (z : Bool). cond z (Some entry.1) (lookup same rest key)) is) ∙ none in cc
      by false is gone = dropped is (gone (sym (ap (λ (z : Bool). cond z (Some entry.1) (lookup same rest key)) is) ∙ none)) (keep entry)

abbrev if_so : {V : Type 0} → (V → Bool) → Option V → Option V
if_so test None = None
if_so test (Some value) = cond (test value) (Some value) None

module _ {K V : Type 0} (same : K → K → Bool) (equal : (a b : K) → same a b ≡ true → a ≡ b) (itself : (a : K) → same a a ≡ true) (test : V → Bool) where
  -- what is found among those that pass a test is what is found, if it passes
  pub found-kept : (before entries : List (K × V)) (key : K) → AreNew same before entries → lookup same (filter (λ (entry : K × V). test entry.1) entries) key ≡ if_so test (lookup same entries key)
  found-kept before [] key new = refl
  found-kept before (entry ∷ rest) key new = by (same key entry.0) refl (found-kept (before ++ entry ∷ []) rest key new.1)
    where
      here : lookup same (before ++ entry ∷ []) entry.0 ≡ Some entry.1
      here = found-next same before (entry ∷ []) entry.0 new.0 ∙ ap (λ (z : Bool). cond z (Some entry.1) None) (itself entry.0)

      gone : lookup same (filter (λ (e : K × V). test e.1) rest) entry.0 ≡ None
      gone = none-kept same equal (λ (e : K × V). test e.1) rest entry.0 (none-behind same equal (before ++ entry ∷ []) rest entry.0 entry.1 new.1 here)

      first : same key entry.0 ≡ true → (b : Bool) → lookup same (cond b (entry ∷ filter (λ (e : K × V). test e.1) rest) (filter (λ (e : K × V). test e.1) rest)) key ≡ cond b (Some entry.1) None
      first is true = ap (λ (z : Bool). cond z (Some entry.1) (lookup same (filter (λ (e : K × V). test e.1) rest) key)) is
      first is false = ap (λ k. lookup same (filter (λ (e : K × V). test e.1) rest) k) (equal key entry.0 is) ∙ gone

      later : same key entry.0 ≡ false → (b : Bool) → lookup same (cond b (entry ∷ filter (λ (e : K × V). test e.1) rest) (filter (λ (e : K × V). test e.1) rest)) key ≡ lookup same (filter (λ (e : K × V). test e.1) rest) key
      later is true = ap (λ (z : Bool). cond z (Some entry.1) (lookup same (filter (λ (e : K × V). test e.1) rest) key)) is
      later is false = refl

      by : (b : Bool) → same key entry.0 ≡ b → lookup same (filter (λ (e : K × V). test e.1) rest) key ≡ if_so test (lookup same rest key) → lookup same (filter (λ (e : K × V). test e.1) (entry ∷ rest)) key ≡ if_so test (lookup same (entry ∷ rest) key)
      by true is next = first is (test entry.1) ∙ sym (ap (λ (z : Bool). if_so test (cond z (Some entry.1) (lookup same rest key))) is)
      by false is next = later is (test entry.1) ∙ next ∙ sym (ap (λ (z : Bool). if_so test (cond z (Some entry.1) (lookup same rest key))) is)

  -- each entry is what is found under its key
  pub all-found : (before entries : List (K × V)) → AreNew same before entries → AllByRecursion (λ (entry : K × V). lookup same (before ++ entries) entry.0 ≡ Some entry.1) entries
  all-found before [] new = tt
  all-found before (entry ∷ rest) new = (
    found-next same before (entry ∷ rest) entry.0 new.0 ∙ ap (λ (z : Bool). cond z (Some entry.1) (lookup same rest entry.0)) (itself entry.0),
    subst (λ z. AllByRecursion (λ (e : K × V). lookup same z e.0 ≡ Some e.1) rest) (append_assoc before (entry ∷ []) rest) (all-found (before ++ entry ∷ []) rest new.1),
  )

-- ---- words and symbols

pub word-itself : (a : List ℕ) → bytes_eq a a ≡ true
word-itself a = (bytes_eq-Decides a a).1 refl

-- what a word means among those of a kind
pub word-kept : (which : Entity → Bool) (words : List (List ℕ × Meaning)) (word : List ℕ) → AreNew bytes_eq [] words → lookup bytes_eq (words_meant which words) word ≡ if_kept which (lookup bytes_eq words word)
word-kept which words word new = found-kept bytes_eq same-text word-itself (is_meant which) [] words word new ∙ same (lookup bytes_eq words word)
  where
    same : (found : Option Meaning) → if_so (is_meant which) found ≡ if_kept which found
    same None = refl
    same (Some meaning) = refl

-- ---- what code finds

-- a word of a table
pub among-all : (words : List (List ℕ × Meaning)) (count : ℕ) (word : List ℕ) → count ≡ length words → lookup bytes_eq (take count words) word ≡ lookup bytes_eq words word
among-all words count word is = (λ i. lookup bytes_eq (take (is i) words) word) ∙ ap (λ z. lookup bytes_eq z word) (take-length words)

-- a symbol of a kind is looked for from a place on
pub symbol-next : (which : Entity → Bool) (symbols : List (Op × Meaning)) (i : ℕ) (symbol : Op × Meaning) (op : Op) (found : Option Meaning) → i < length symbols → symbol ≡ get_or symbols i symbol →
    (same_symbol op symbol.0 && is_meant which symbol.1) ≡ false → lookup same_symbol (symbols_meant which (drop i symbols)) op ≡ found → lookup same_symbol (symbols_meant which (drop (i + 1) symbols)) op ≡ found
symbol-next which symbols i symbol op found lt is other at =
    sym (by (is_meant which symbol.1) (same_symbol op symbol.0) refl other) ∙ ap (λ z. lookup same_symbol (symbols_meant which z) op) (sym (drop-from symbols i symbol lt is)) ∙ at
  where
    by : (kept same : Bool) → same_symbol op symbol.0 ≡ same → (same && kept) ≡ false → lookup same_symbol (cond kept (symbol ∷ symbols_meant which (drop (i + 1) symbols)) (symbols_meant which (drop (i + 1) symbols))) op ≡ lookup same_symbol (symbols_meant which (drop (i + 1) symbols)) op
    by true true at is = cc
    by true false at is = ap (λ (z : Bool). cond z (Some symbol.1) (lookup same_symbol (symbols_meant which (drop (i + 1) symbols)) op)) at
    by false same at is = refl

-- and found at a place
pub symbol-here : (which : Entity → Bool) (symbols : List (Op × Meaning)) (i : ℕ) (symbol : Op × Meaning) (op : Op) (found : Option Meaning) → i < length symbols → symbol ≡ get_or symbols i symbol →
    (same_symbol op symbol.0 && is_meant which symbol.1) ≡ true → lookup same_symbol (symbols_meant which (drop i symbols)) op ≡ found → Some symbol.1 ≡ found
symbol-here which symbols i symbol op found lt is this at =
    sym (by (is_meant which symbol.1) (same_symbol op symbol.0) refl this) ∙ ap (λ z. lookup same_symbol (symbols_meant which z) op) (sym (drop-from symbols i symbol lt is)) ∙ at
  where
    by : (kept same : Bool) → same_symbol op symbol.0 ≡ same → (same && kept) ≡ true → lookup same_symbol (cond kept (symbol ∷ symbols_meant which (drop (i + 1) symbols)) (symbols_meant which (drop (i + 1) symbols))) op ≡ Some symbol.1
    by true true at is = ap (λ (z : Bool). cond z (Some symbol.1) (lookup same_symbol (symbols_meant which (drop (i + 1) symbols)) op)) at
    by true false at is = cc
    by false true at is = cc
    by false false at is = cc

-- ---- lists that grow by what comes of one item more

pub grown-by : {A B : Type 0} (of : List A → List B) → ((a b : List A) → of (a ++ b) ≡ of a ++ of b) → (before now new : List B) (xs : List A) (i : ℕ) (x : A) → i < length xs → x ≡ get_or xs i x → now ≡ before ++ of (take i xs) → new ≡ now ++ of (x ∷ []) → new ≡ before ++ of (take (i + 1) xs)
grown-by of both before now new xs i x lt is at more =
    more ∙ ap (λ z. z ++ of (x ∷ [])) at ∙ append_assoc before (of (take i xs)) (of (x ∷ []))
    ∙ ap (λ z. before ++ z) (sym (both (take i xs) (x ∷ [])) ∙ ap of (ap (λ z. take i xs ++ z ∷ []) is ∙ sym (take_more xs i x lt)))

pub of_symbols-append : (a b : List (Op × Meaning)) → of_symbols (a ++ b) ≡ of_symbols a ++ of_symbols b
of_symbols-append [] b = refl
of_symbols-append (symbol ∷ a) b = ap (λ z. (Symbol symbol.0, symbol.1) ∷ z) (of_symbols-append a b)

pub shown-append : (a b : List (Bor (List ℕ) × Bor Meaning)) → of_words (map shown (a ++ b)) ≡ of_words (map shown a) ++ of_words (map shown b)
shown-append a b = ap of_words (map-append shown a b) ∙ of_words-append (map shown a) (map shown b)

pub meant-append : (which : Entity → Bool) (a b : List (Op × Meaning)) → of_symbols (symbols_meant which (a ++ b)) ≡ of_symbols (symbols_meant which a) ++ of_symbols (symbols_meant which b)
meant-append which a b = ap of_symbols (filter-append (λ (symbol : Op × Meaning). is_meant which symbol.1) a b) ∙ of_symbols-append (symbols_meant which a) (symbols_meant which b)

-- the words and the symbols of a kind are all entries of that kind
pub listed-kept : (which : Entity → Bool) (table : Table Meaning) (words : List (List ℕ × Meaning)) (symbols : List (Op × Meaning)) → words ≡ words_meant which table.words → symbols ≡ table.symbols →
    of_words words ++ of_symbols (symbols_meant which symbols) ≡ filter (λ (entry : Named × Meaning). is_meant which entry.1) (exports_of table)
listed-kept which table words symbols all own = (λ i. of_words (all i) ++ of_symbols (symbols_meant which (own i))) ∙ sym (kept-table which table)

pub ok-so : {A E : Type 0} (P Q : A → Type 0) (result : Result A E) → ((value : A) → P value → Q value) → IfOk result P → IfOk result Q
ok-so P Q (Ok value) so held = so value held
ok-so P Q (Err fault) so held = held

pub on-so : {A E : Type 0} (P Q : Type 0) (result : Result A E) → (P → Q) → OnOk result P → OnOk result Q
on-so P Q (Ok value) so held = so held
on-so P Q (Err fault) so held = held
