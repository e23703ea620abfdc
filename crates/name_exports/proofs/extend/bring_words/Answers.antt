use Rattle.std.proofs.Common.{◌+◌, ap, drop, false, subst, sym}
use Rattle.module_model.specs.Exports.{of_words}
use Rattle.tla_model.specs.Tables.{Word}
use Rattle.name_exports.specs.Brought.{IsBringing}
use Rattle.name_exports.proofs.Bringing.{bring-at}
use Rattle.list_laws.proofs.Lists.{drop-at}
use Rattle.name_exports.proofs.extend.bring_words.Goals as goal

pub loop-index-preserved : goal.loop-index-preserved
loop-index-preserved c =
    let words = c.args.table.now.words in
    let i = c.loop-index.index in
    let word = c.in-Some.word.now in
    let meaning = c.in-Some.meaning.now in
    let rest = of_words (drop (i + 1) words) in
    let all = of_words (drop c.args.first words) in
    subst (λ clash. IsBringing false c.args.names.now c.bring.new.names clash rest all) (sym c.either-clash.ensures)
    (bring-at c.args.names.now c.loop-index.names c.bring.new.names c.loop-index.clash c.in_ok-clashes.clashes (Word word, meaning)
    (of_words (drop i words)) rest all
    (ap of_words (drop-at words i (word, meaning) (sym c.in-Some.ensures)))
    c.loop-index.invariant c.in_ok-clashes.ensures.clash c.in_ok-clashes.ensures.names)
