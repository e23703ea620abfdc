use Rattle.std.proofs.Common.{◌++◌, ◌||◌, ap, false, subst, sym}
use Rattle.module_model.specs.Exports.{exports_of, of_symbols, of_words}
use Rattle.name_exports.specs.Brought.{IsBrought}
use Rattle.name_exports.proofs.Bringing.{bring-both}
use Rattle.name_exports.proofs.extend.bring_table.Goals as goal

pub returns : goal.returns
returns c =
    let old = c.args.names.now in
    let new = c.bring_symbols.new.names in
    let table = c.args.table.now in
    subst (λ clash. IsBrought old new clash (exports_of table)) (sym c.either.ensures)
    (subst (IsBrought old new (c.in_ok-words.words || c.in_ok-symbols.symbols)) (ap (λ z. of_words table.words ++ of_symbols z) c.symbols.ensures)
    (bring-both false old c.bring_table_words.new.names new c.in_ok-words.words c.in_ok-symbols.symbols (of_words table.words) (of_symbols c.symbols.result.now) c.in_ok-words.ensures c.in_ok-symbols.ensures))
