use Rattle.std.proofs.Common.{◌∙◌, sym, ap}
use Rattle.module_model.specs.Exports.{entry_of, exports_of}
use Rattle.name_context.specs.AsTables.{meant_by}
use Rattle.tla_model.specs.Tables.{Symbol, Word, lookup, same_symbol}
use Rattle.instance_leads.specs.Found.{kept, of_kind}
use Rattle.instance_leads.proofs.Naming.{entry-kept, symbols_meant}
use Rattle.instance_leads.proofs.entries.kept_among.Goals as goal

pub returns-in-Word : goal.returns-in-Word
returns-in-Word c =
    c.own_word_kept.ensures ∙ sym (entry-kept (of_kind c.args.kind) c.args.exports.now (Word c.in-Word.word.now))
    ∙ ap (λ name. entry_of (kept c.args.kind (exports_of c.args.exports.now)) (meant_by name)) (sym c.in-Word.is)

pub returns-in-Symbol : goal.returns-in-Symbol
returns-in-Symbol c =
    c.symbol_kept.ensures ∙ ap (λ z. lookup same_symbol (symbols_meant (of_kind c.args.kind) z) c.in-Symbol.op) c.symbols.ensures.symbols
    ∙ sym (entry-kept (of_kind c.args.kind) c.args.exports.now (Symbol c.in-Symbol.op))
    ∙ ap (λ name. entry_of (kept c.args.kind (exports_of c.args.exports.now)) (meant_by name)) (sym c.in-Symbol.is)
