use Rattle.std.proofs.Common.{ℕ, List, [], ◌++◌, ap, subst, sym, ◌∙◌}
use Rattle.std.specs.Str.{bytes_eq}
use Rattle.tla_symbols.specs.declared.op.Op.{Op}
use Rattle.tla_model.specs.Entities.{Meaning}
use Rattle.tla_model.specs.EntityKinds.{is_meant, stands_behind}
use Rattle.tla_model.specs.Stretches.{words_of}
use Rattle.tla_model.specs.Tables.{AreNew, Table, same_symbol}
use Rattle.exact_faces.specs.Kept.{kept_symbols}
use Rattle.exact_faces.proofs.Keeping.{once-kept}
use Rattle.exact_faces.proofs.kept.kept_table.Goals as goal

pub extended-requires-clause-words : goal.extended-requires-clause-words
extended-requires-clause-words c =
    subst (λ words. AreNew bytes_eq [] words) (sym (ap (λ (table : Table Meaning). table.words ++ words_of c.in_ok-words.words.entries) c.new.ensures ∙ c.in_ok-words.ensures))
    (once-kept bytes_eq (λ (word : List ℕ × Meaning). is_meant stands_behind word.1) c.args.table.now.words c.len-len.ensures.once)

pub extended-requires-clause-symbols : goal.extended-requires-clause-symbols
extended-requires-clause-symbols c =
    subst (λ symbols. AreNew same_symbol [] symbols) (sym (c.in_ok-symbols.ensures ∙ ap kept_symbols c.symbols.ensures))
    (once-kept same_symbol (λ (symbol : Op × Meaning). is_meant stands_behind symbol.1) c.args.table.now.symbols c.len-len.ensures.symbols_once)
