use Rattle.std.proofs.Common.{◌∙◌, ap, sym}
use Rattle.tla_model.specs.Meant.{word_meaning}
use Rattle.tla_model.specs.Stretches.{shown, words_in}
use Rattle.tla_model.proofs.Meanings.{meaning-found, meaning-missed}
use Rattle.tla_model.proofs.table.NameTable.word_meaning.Goals as goal

pub returns-in-Some : goal.returns-in-Some
returns-in-Some c =
    let other = c.args.meaning.now in
    sym (meaning-found words_in c.as_slice-stretch-items.result.now c.loop-stretch.stretch-index c.stretch-item.result other (shown c.in-Some.entry)
    c.loop-stretch-test.true c.stretch-item.is (sym (c.in-Some.ensures ∙ ap (λ z. word_meaning z other) c.deref.ensures)))
    ∙ c.loop-stretch.invariant

pub loop-stretch-preserved : goal.loop-stretch-preserved
loop-stretch-preserved c =
    let other = c.args.meaning.now in
    meaning-missed words_in c.as_slice-stretch-items.result.now c.loop-stretch.stretch-index c.stretch-item.result other
    c.loop-stretch-test.true c.stretch-item.is (sym (c.in_default.ensures ∙ ap (λ z. word_meaning z other) c.deref.ensures))
    ∙ c.loop-stretch.invariant
