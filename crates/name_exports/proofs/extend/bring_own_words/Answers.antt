use Rattle.std.proofs.Common.{ap, sym, subst, drop, ◌+◌, false}
use Rattle.module_model.specs.Exports.{of_words}
use Rattle.tla_model.specs.Tables.{Word}
use Rattle.name_context.specs.AsTables.{words_of}
use Rattle.name_exports.specs.Brought.{IsBringing}
use Rattle.name_exports.proofs.Bringing.{bring-at}
use Rattle.list_laws.proofs.Lists.{drop-at}
use Rattle.name_exports.proofs.extend.bring_own_words.Goals as goal

pub loop-index-preserved : goal.loop-index-preserved
loop-index-preserved c =
    let entries = c.args.words.now.entries in
    let word = c.in-Some.word.now in
    let meaning = c.in-Some.meaning.now in
    let rest = of_words (words_of (drop (c.loop-index.index + 1) entries)) in
    let all = of_words (words_of entries) in
    subst (λ clash. IsBringing false c.args.names.now c.bring.new.names clash rest all) (sym c.either-clash.ensures)
    (bring-at c.args.names.now c.loop-index.names c.bring.new.names c.loop-index.clash c.in_ok-clashes.clashes (Word word.now, meaning)
    (of_words (words_of (drop c.loop-index.index entries))) rest all
    (ap (λ z. of_words (words_of z)) (drop-at entries c.loop-index.index (word, meaning) (sym c.in-Some.ensures.entry)))
    c.loop-index.invariant c.in_ok-clashes.ensures.clash c.in_ok-clashes.ensures.names)
