-- Tables of names: each name once, with what stands under it. What first took a name stays there.
use Rattle.std.specs.Prelude.{◌≡◌, ⊤, ℕ, Bool, false, ◌||◌, List, [], ◌∷◌, ◌++◌, Option, Some, None, is_some, if◌then◌else◌}
use Rattle.std.specs.Str.{bytes_eq}
use Rattle.tla_symbols.specs.declared.op.Op.{Op}
use Rattle.tla_symbols.specs.contracts.op.Op as op
use denote.Enum.Bare.{sameb}

-- identifiers and symbols are named apart
pub data Named : Type 0 where
  Word : (bytes : List ℕ) → Named
  Symbol : (op : Op) → Named

-- both are one symbol, in whichever spelling
abbrev pub same_symbol : Op → Op → Bool
same_symbol a b = sameb op.the_type a b

-- both are one identifier, or one symbol
abbrev pub same_named : Named → Named → Bool
same_named (Word a) (Word b) = bytes_eq a b
same_named (Symbol a) (Symbol b) = same_symbol a b
same_named _ _ = false

-- the name is one of these
abbrev pub is_among : List Named → Named → Bool
is_among [] name = false
is_among (other ∷ rest) name = same_named name other || is_among rest name

-- the value under a key, if there is one
abbrev pub lookup : {K V : Type 0} → (K → K → Bool) → List (K × V) → K → Option V
lookup same [] key = None
lookup same (entry ∷ rest) key = if same key entry.0 then Some entry.1 else lookup same rest key

-- one more entry, unless its key is there
abbrev pub added : {K V : Type 0} → (K → K → Bool) → List (K × V) → K → V → List (K × V)
added same entries key value = if is_some (lookup same entries key) then entries else entries ++ (key, value) ∷ []

-- no key of the entries is there before it, among those before or among the entries
abbrev pub AreNew : {K V : Type 0} → (K → K → Bool) → List (K × V) → List (K × V) → Type 0
AreNew same before [] = ⊤
AreNew same before (entry ∷ rest) = (lookup same before entry.0 ≡ None) × AreNew same (before ++ entry ∷ []) rest

-- a table, by the order in which the names were put
pub record Table (V : Type 0) : Type 0 where
  pub words : List (List ℕ × V)
  pub symbols : List (Op × V)

-- a table without names
abbrev pub empty : {V : Type 0} → Table V
empty = record { words = []; symbols = [] }

-- the value under a name, if it is there
abbrev pub find : {V : Type 0} → Table V → Named → Option V
find table (Word bytes) = lookup bytes_eq table.words bytes
find table (Symbol op) = lookup same_symbol table.symbols op

-- the name has a value
abbrev pub has : {V : Type 0} → Table V → Named → Bool
has table name = is_some (find table name)

-- a name that is there stays as it is
abbrev pub put : {V : Type 0} → Table V → Named → V → Table V
put table (Word bytes) value = record table { words = added bytes_eq table.words bytes value }
put table (Symbol op) value = record table { symbols = added same_symbol table.symbols op value }
