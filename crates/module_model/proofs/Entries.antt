-- What a table has under a name, among the entries that it exports.
use Rattle.std.proofs.Common.{◌≡◌, ℕ, cond, List, [], ◌∷◌, ◌++◌, Some, None, refl, ap}
use Rattle.std.specs.Str.{bytes_eq}
use Rattle.tla_symbols.specs.declared.op.Op.{Op}
use Rattle.tla_model.specs.Entities.{Meaning}
use Rattle.tla_model.specs.Tables.{Named, Word, Symbol, Table, find, lookup, same_named, same_symbol}
use Rattle.module_model.specs.Exports.{entry_of, exports_of, of_symbols, of_words}

no-word : (symbols : List (Op × Meaning)) (bytes : List ℕ) → lookup same_named (of_symbols symbols) (Word bytes) ≡ None
no-word [] bytes = refl
no-word (entry ∷ rest) bytes = no-word rest bytes

at-symbol : (symbols : List (Op × Meaning)) (op : Op) → lookup same_named (of_symbols symbols) (Symbol op) ≡ lookup same_symbol symbols op
at-symbol [] op = refl
at-symbol (entry ∷ rest) op = ap (λ z. cond (same_symbol op entry.0) (Some entry.1) z) (at-symbol rest op)

words-first : (words : List (List ℕ × Meaning)) (symbols : List (Op × Meaning)) (name : Named) → entry_of (of_words words ++ of_symbols symbols) name ≡ find (record { words = words; symbols = symbols }) name
words-first [] symbols (Word bytes) = no-word symbols bytes
words-first [] symbols (Symbol op) = at-symbol symbols op
words-first (entry ∷ rest) symbols (Word bytes) = ap (λ z. cond (bytes_eq bytes entry.0) (Some entry.1) z) (words-first rest symbols (Word bytes))
words-first (entry ∷ rest) symbols (Symbol op) = words-first rest symbols (Symbol op)

-- an entry of a table is what stands there under its name
pub entry-of-table : (table : Table Meaning) (name : Named) → entry_of (exports_of table) name ≡ find table name
entry-of-table table name = words-first table.words table.symbols name
