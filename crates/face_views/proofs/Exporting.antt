-- What a table exports tells the table.
use Rattle.std.proofs.Common.{◌≡◌, ℕ, List, [], ◌∷◌, ◌++◌, Option, Some, None, refl, sym, ap, ◌∙◌}
use Rattle.tla_symbols.specs.declared.op.Op.{Op}
use Rattle.tla_model.specs.Entities.{Meaning}
use Rattle.tla_model.specs.Tables.{Table, Word, Symbol}
use Rattle.module_model.specs.Exports.{Exports, exports_of, of_symbols, of_words, standing}

-- the words among entries
words_among : Exports → List (List ℕ × Meaning)
words_among [] = []
words_among ((Word bytes, meaning) ∷ rest) = (bytes, meaning) ∷ words_among rest
words_among ((Symbol op, meaning) ∷ rest) = words_among rest

-- the symbols among entries
symbols_among : Exports → List (Op × Meaning)
symbols_among [] = []
symbols_among ((Word bytes, meaning) ∷ rest) = symbols_among rest
symbols_among ((Symbol op, meaning) ∷ rest) = (op, meaning) ∷ symbols_among rest

no-words : (symbols : List (Op × Meaning)) → words_among (of_symbols symbols) ≡ []
unfolding words_among
no-words [] = refl
no-words (symbol ∷ rest) = no-words rest

all-symbols : (symbols : List (Op × Meaning)) → symbols_among (of_symbols symbols) ≡ symbols
unfolding symbols_among
all-symbols [] = refl
all-symbols (symbol ∷ rest) = ap (λ more. symbol ∷ more) (all-symbols rest)

words-told : (words : List (List ℕ × Meaning)) (symbols : List (Op × Meaning)) →
    words_among (of_words words ++ of_symbols symbols) ≡ words
unfolding words_among
words-told [] symbols = no-words symbols
words-told (word ∷ rest) symbols = ap (λ more. word ∷ more) (words-told rest symbols)

symbols-told : (words : List (List ℕ × Meaning)) (symbols : List (Op × Meaning)) →
    symbols_among (of_words words ++ of_symbols symbols) ≡ symbols
unfolding symbols_among
symbols-told [] symbols = all-symbols symbols
symbols-told (word ∷ rest) symbols = symbols-told rest symbols

pub table-told : (one other : Table Meaning) → exports_of one ≡ exports_of other → one ≡ other
table-told one other same =
    let words : one.words ≡ other.words =
    sym (words-told one.words one.symbols) ∙ ap words_among same
    ∙ words-told other.words other.symbols in
    let symbols : one.symbols ≡ other.symbols =
    sym (symbols-told one.words one.symbols) ∙ ap symbols_among same
    ∙ symbols-told other.words other.symbols in
    λ i. record { words = words i; symbols = symbols i }

-- what stands behind an instance tells the table of its module
pub standing-told : (one other : Option (Table Meaning)) → standing one ≡ standing other →
    one ≡ other
standing-told None None same = refl
standing-told None (Some there) same = cc
standing-told (Some here) None same = cc
standing-told (Some here) (Some there) same =
    let exports : exports_of here ≡ exports_of there = cc in
    ap (λ (table : Table Meaning). Some table) (table-told here there exports)
