-- Names of a table by what they mean.
use Rattle.std.specs.Prelude.{List, [], ◌∷◌, Option, Some, None, if◌then◌else◌, option_map}
use Rattle.std.specs.Option.{option_or}
use Rattle.tla_symbols.specs.declared.op.Op.{Op}
use Rattle.tla_model.specs.Entities.{Meaning}
use Rattle.tla_model.specs.Meant.{is_behind, word_meaning}
use Rattle.tla_model.specs.Tables.{Named, Table, Word, Symbol}

-- the first of some symbols that means this and can be named behind an instance
abbrev pub symbol_meaning : List (Op × Meaning) → Meaning → Option Op
symbol_meaning [] other = None
symbol_meaning (entry ∷ rest) other = if is_behind other entry.1 then Some entry.0 else symbol_meaning rest other

-- the first name of a table that does
abbrev pub name_meaning : Table Meaning → Meaning → Option Named
name_meaning table other = option_or (option_map (λ entry. Word entry.0) (word_meaning table.words other)) (option_map (λ op. Symbol op) (symbol_meaning table.symbols other))
