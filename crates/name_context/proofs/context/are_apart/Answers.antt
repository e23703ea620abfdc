use Rattle.std.proofs.Common.{◌≡◌, ◌∙◌, None, ap, arith, length, subst, sym, take}
use Rattle.std.specs.Str.{bytes_eq}
use Rattle.std.proofs.lemmas.List.{take_all}
use Rattle.tla_model.specs.Tables.{lookup}
use Rattle.name_context.specs.AsTables.{AreApart, words_of}
use Rattle.name_context.proofs.Looking.{drop-beyond, none-copied}
use Rattle.list_laws.proofs.Lists.{drop-at}
use Rattle.name_context.proofs.context.are_apart.Goals as goal

pub loop-index-init : goal.loop-index-init
loop-index-init c = λ apart. apart

pub loop-index-preserved : goal.loop-index-preserved
loop-index-preserved c = λ apart.
    let words = c.args.table.now.words in
    let word = c.in-Some.word.now.now in
    let none : lookup bytes_eq words word ≡ None =
    sym (ap (λ z. lookup bytes_eq z word) (ap (λ n. take n words) c.len.ensures.len ∙ take_all (length words) words (omega arith)))
    ∙ sym c.word_among.ensures ∙ none-copied c.word_among.result (sym c.is_some.ensures ∙ c.if-is_some.false)
    in
    c.loop-index.invariant
    (subst (λ z. AreApart words (words_of z)) (sym (drop-at c.args.words.now.entries c.loop-index.index (c.in-Some.word.now, c.in-Some.field-0-1.now) (sym c.in-Some.ensures.entry))) (none, apart))

pub returns : goal.returns
returns c = λ yes.
    let entries = c.args.words.now.entries in
    let many = c.len-index-end.ensures.len in
    let end = c.loop-index-test.false in
    c.loop-index.invariant (subst (λ z. AreApart c.args.table.now.words (words_of z)) (sym (drop-beyond c.loop-index.index entries (omega (arith, many, end)))) tt)
