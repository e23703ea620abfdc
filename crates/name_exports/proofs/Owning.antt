-- Words with spellings of their own.
use Rattle.std.proofs.Common.{◌≡◌, ℕ, ◌+◌, take, List, [], ◌∷◌, ◌++◌, Option, Some, None, true, false, true≢false, refl, sym, ap, ◌∙◌}
use Rattle.std.specs.Prelude.{is_some, slice_get, string_bytes, String}
use Rattle.std.specs.Borrow.{Bor}
use Rattle.std.specs.Str.{bytes_eq}
use Rattle.std.specs.String.{string_eq}
use Rattle.std.specs.declared.alloc.Global.{Global}
use Rattle.std.proofs.lemmas.List.{map-append}
use Rattle.indexmap.specs.IndexMap.{IndexMap, insert_entry}
use Rattle.indexmap.proofs.CallerLemmas.{insert_entry-new}
use Rattle.tla_model.specs.Entities.{Meaning}
use Rattle.tla_model.specs.Stretches as owned
use Rattle.tla_model.specs.Tables.{AreNew, lookup}
use Rattle.tla_model.proofs.Stretching.{found-first, found-next, lookup-named, new-at, take-at}
use Rattle.list_laws.proofs.Options.{none-there}
use Rattle.name_context.specs.AsTables.{words_of}
use Rattle.list_laws.proofs.Lists.{at-map}
use Rattle.name_context.proofs.Words.{words-append, words-take}

abbrev Row : Type 0
Row = String Global × Meaning

abbrev Lent : Type 0
Lent = Bor (List ℕ) × Meaning

-- a word that is not there goes last
pub put-owned : {S : Type 0} (table : IndexMap (String Global) Meaning S) (rows : List Row) (key : String Global) (word : List ℕ) (value meaning : Meaning) →
    lookup bytes_eq (owned.words_of table.entries) word ≡ None → string_bytes key ≡ word → value ≡ meaning → rows ≡ insert_entry string_eq table.entries key value →
    owned.words_of rows ≡ owned.words_of table.entries ++ (word, meaning) ∷ []
put-owned table rows key word value meaning absent k v e =
    ap owned.words_of (e ∙ insert_entry-new string_eq table key value (lookup-named string_bytes bytes_eq table.entries (string_bytes key) ∙ ap (λ z. lookup bytes_eq (owned.words_of table.entries) z) k ∙ absent))
    ∙ map-append (λ (entry : Row). (string_bytes entry.0, entry.1)) table.entries ((key, value) ∷ [])
    ∙ (λ j. owned.words_of table.entries ++ (k j, v j) ∷ [])

-- among new words, one that stands at a place is not before it
pub absent-owned : (rows : List Row) (more : List Lent) (i : ℕ) (word : Bor (List ℕ)) (meaning : Meaning) →
    owned.words_of rows ≡ words_of (take i more) → AreNew bytes_eq [] (words_of more) → slice_get more i ≡ Some (word, meaning) → lookup bytes_eq (owned.words_of rows) word.now ≡ None
absent-owned rows more i word meaning so new at =
    ap (λ (z : List (List ℕ × Meaning)). lookup bytes_eq z word.now) (so ∙ words-take i more)
    ∙ new-at bytes_eq [] (words_of more) i (word.now, meaning) new (at-map (λ (entry : Lent). (entry.0.now, entry.1)) more i (word, meaning) at)

pub next-owned : {now next : List (List ℕ × Meaning)} (more : List Lent) (i : ℕ) (word : Bor (List ℕ)) (meaning : Meaning) →
    now ≡ words_of (take i more) → slice_get more i ≡ Some (word, meaning) → next ≡ now ++ (word.now, meaning) ∷ [] → next ≡ words_of (take (i + 1) more)
next-owned more i word meaning so at is =
    is ∙ ap (λ z. z ++ (word.now, meaning) ∷ []) so ∙ sym (words-append (take i more) (word, meaning)) ∙ ap words_of (sym (take-at more i (word, meaning) at))

-- a word that is in neither of two lists, and one that is in one of them
pub in-neither : {V : Type 0} (a b : List (List ℕ × V)) (word : List ℕ) → is_some (lookup bytes_eq a word) ≡ false → is_some (lookup bytes_eq (a ++ b) word) ≡ is_some (lookup bytes_eq b word)
in-neither a b word none = ap is_some (found-next bytes_eq a b word (none-there (lookup bytes_eq a word) none))

pub in-first : {V : Type 0} (a b : List (List ℕ × V)) (word : List ℕ) → is_some (lookup bytes_eq a word) ≡ true → is_some (lookup bytes_eq (a ++ b) word) ≡ true
in-first {V} a b word some = by (lookup bytes_eq a word) refl
  where
    by : (found : Option V) → lookup bytes_eq a word ≡ found → is_some (lookup bytes_eq (a ++ b) word) ≡ true
    by None is = absurd (true≢false (sym some ∙ ap is_some is))
    by (Some value) is = ap is_some (found-first bytes_eq a b word value is)
