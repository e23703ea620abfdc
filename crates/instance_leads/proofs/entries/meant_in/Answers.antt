use Rattle.std.proofs.Common.{◌∙◌, sym, ap}
use Rattle.module_model.specs.Exports.{entry_of, exports_of}
use Rattle.module_model.proofs.Entries.{entry-of-table}
use Rattle.name_context.specs.AsTables.{meant_by}
use Rattle.tla_model.specs.Tables.{Symbol, Word, lookup, same_symbol}
use Rattle.instance_leads.proofs.Naming.{among-all}
use Rattle.instance_leads.proofs.entries.meant_in.Goals as goal

pub returns-in-Word : goal.returns-in-Word
returns-in-Word c =
    c.word_among.ensures ∙ among-all c.args.table.now.words c.len.result c.in-Word.word.now c.len.ensures.len ∙ sym (entry-of-table c.args.table.now (Word c.in-Word.word.now))
    ∙ ap (λ name. entry_of (exports_of c.args.table.now) (meant_by name)) (sym c.in-Word.is)

pub returns-in-Symbol : goal.returns-in-Symbol
returns-in-Symbol c =
    c.symbol_in.ensures ∙ ap (λ z. lookup same_symbol z c.in-Symbol.op) c.symbols.ensures ∙ sym (entry-of-table c.args.table.now (Symbol c.in-Symbol.op))
    ∙ ap (λ name. entry_of (exports_of c.args.table.now) (meant_by name)) (sym c.in-Symbol.is)
