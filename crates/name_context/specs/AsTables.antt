-- Tables of names in code, as tables of the definitions.
use Rattle.std.specs.Prelude.{◌≡◌, ℕ, List, [], ◌++◌, Option, None, Some, map, length, take}
use Rattle.std.specs.Borrow.{Bor}
use Rattle.std.specs.List.{AllByRecursion}
use Rattle.std.specs.Str.{bytes_eq}
use Rattle.tla_model.specs.Tables as tables
use Rattle.tla_model.specs.Tables.{AreNew, Table, lookup}
use Rattle.tla_model.specs.Entities.{Meaning}
use Rattle.tla_model.specs.Contexts as contexts
use Rattle.name_context.specs.declared.context.Context.{Context}
use Rattle.name_context.specs.declared.context.Named.TheVariants as named
use Rattle.name_context.specs.declared.context.Mark.{Mark}

-- the words of a table in code, each with its value
abbrev pub words_of : {V : Type 0} → List (Bor (List ℕ) × V) → List (List ℕ × V)
words_of entries = map (λ entry. (entry.0.now, entry.1)) entries

-- the words of a table that was taken over, if one was
abbrev pub taken_words : Option (Bor (Table Meaning)) → List (List ℕ × Meaning)
taken_words None = []
taken_words (Some table) = table.now.words

-- in a context they can be used
abbrev pub usable : List ℕ × Meaning → List ℕ × Option Meaning
usable entry = (entry.0, Some entry.1)

-- the same of all words of a table
abbrev pub usable_words : List (List ℕ × Meaning) → List (List ℕ × Option Meaning)
usable_words words = map usable words

-- the first words, which were put before any were taken over
abbrev pub first_words : Context → List (List ℕ × Option Meaning)
first_words context = words_of context.before.entries

-- the words that stand behind the first ones: those that were taken over, then others
abbrev pub behind : Context → List (List ℕ × Option Meaning)
behind context = usable_words (take context.shared_len (taken_words context.taken)) ++ words_of context.words.entries

-- what a context in code means, with all its words in the order in which they count
abbrev pub context_of : Context → contexts.Context
context_of context = record { words = first_words context ++ behind context; symbols = context.symbols.items }

-- none of the others is a word
abbrev pub AreApart : List (List ℕ × Meaning) → List (List ℕ × Option Meaning) → Type 0
AreApart words others = AllByRecursion (λ entry. lookup bytes_eq words entry.0 ≡ None) others

-- words can be taken over
pub record CanTake (context : Context) (words : List (List ℕ × Meaning)) : Type 0 where
  pub taken : context.taken ≡ None
  pub before : context.before.entries ≡ []
  pub once : AreNew bytes_eq [] words
  pub apart : AreApart words (words_of context.words.entries)

-- a name as the code asks for it, as a name of the definitions
abbrev pub meant_by : named.the_data → tables.Named
meant_by (named.Word word) = tables.Word word.now
meant_by (named.Symbol op) = tables.Symbol op

-- the mark of all names that a table has now
abbrev pub mark_of : {V : Type 0} → Table V → Mark
mark_of table = record { words = length table.words; symbols = length table.symbols }

-- the first so many names
abbrev pub cut : {V : Type 0} → Table V → Mark → Table V
cut table mark = record { words = take mark.words table.words; symbols = take mark.symbols table.symbols }
