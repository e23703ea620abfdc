use Rattle.std.proofs.Common.{◌+◌, ap, drop, subst, sym}
use Rattle.std.specs.Option.{option_copied}
use Rattle.list_laws.proofs.Lists.{drop-at}
use Rattle.module_model.specs.Exports.{of_words}
use Rattle.tla_model.specs.Tables.{Word}
use Rattle.name_context.specs.AsTables.{words_of}
use Rattle.name_exports.specs.Brought.{IsBringing, behind_through}
use Rattle.name_exports.proofs.Bringing.{bring-behind}
use Rattle.name_exports.proofs.instance.bring_own_words.Goals as goal

pub loop-index-preserved : goal.loop-index-preserved
loop-index-preserved c =
    let entries = c.args.words.now.entries in
    let i = c.loop-index.index in
    let unit = option_copied c.args.unit in
    let word = c.in-Some.word.now in
    let meaning = c.in-Some.meaning.now in
    let rest = of_words (words_of (drop (i + 1) entries)) in
    let all = behind_through unit (of_words (words_of entries)) in
    subst (λ clash. IsBringing c.args.local c.args.names.now c.bring_entry.new.names clash (behind_through unit rest) all) (sym c.either-clash.ensures)
    (bring-behind c.args.local c.args.names.now c.loop-index.names c.bring_entry.new.names c.loop-index.clash c.in_ok-clashes.clashes unit
    (of_words (words_of (drop i entries))) (Word word.now) meaning rest all (ap (λ z. of_words (words_of z)) (drop-at entries i (word, meaning) (sym c.in-Some.ensures.entry)))
    c.loop-index.invariant c.in_ok-clashes.ensures)
