use Rattle.std.proofs.Common.{◌++◌, ◌||◌, subst, sym}
use Rattle.std.specs.Option.{option_copied}
use Rattle.module_model.specs.Exports.{exports_of, of_symbols, of_words}
use Rattle.name_exports.specs.Brought.{IsJoined, behind_through}
use Rattle.name_exports.proofs.Bringing.{join-two}
use Rattle.name_exports.proofs.instance.bring_through.Goals as goal

pub returns : goal.returns
returns c =
    let local = c.args.local in
    let old = c.args.names.now in
    let new = c.bring_symbols.new.names in
    let table = c.args.table.now in
    let unit = option_copied c.args.unit in
    let words = of_words table.words in
    let symbols = of_symbols c.symbols.result.now in
    subst (λ clash. IsJoined local old new clash (behind_through unit (exports_of table))) (sym c.either.ensures)
    (subst (λ z. IsJoined local old new (c.in_ok-words.words || c.in_ok-symbols.symbols) (behind_through unit (words ++ of_symbols z))) c.symbols.ensures
    (join-two local unit old c.bring_words.new.names new c.in_ok-words.words c.in_ok-symbols.symbols words symbols c.in_ok-words.ensures c.in_ok-symbols.ensures))
