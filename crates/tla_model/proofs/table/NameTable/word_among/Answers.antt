use Rattle.std.proofs.Common.{◌≡◌, ◌∙◌, ◌+◌, ◌-◌, ℕ, take, drop, ap, sym, length, List}
use Rattle.tla_model.specs.Entities.{Meaning}
use Rattle.std.specs.Str.{bytes_eq}
use Rattle.tla_model.specs.Stretches.{all_words, words_in}
use Rattle.tla_model.specs.Tables.{lookup}
use Rattle.tla_model.proofs.Stretching.{stretch-found, stretch-missed}
use Rattle.tla_model.proofs.table.NameTable.word_among.Goals as goal

pub returns-in-Some : goal.returns-in-Some
returns-in-Some c =
    let left = c.loop-stretch.left in
    let word = c.args.word.now in
    stretch-found bytes_eq words_in c.as_slice-stretch-items.result.now c.loop-stretch.stretch-index left c.stretch-item.result word c.in-Some.meaning.now
    c.loop-stretch-test.true c.stretch-item.is
    (c.in-Some.ensures ∙ ap (λ z. lookup bytes_eq (take left z) word) (c.words.ensures ∙ c.deref.ensures))
    ∙ c.loop-stretch.invariant

pub loop-stretch-preserved : goal.loop-stretch-preserved
loop-stretch-preserved c =
    let left = c.loop-stretch.left in
    let word = c.args.word.now in
    let stretch = c.stretch-item.result in
    let stretches = c.as_slice-stretch-items.result.now in
    let none = sym (c.in_default.ensures ∙ ap (λ z. lookup bytes_eq (take left z) word) (c.words.ensures ∙ c.deref.ensures)) in
    let long : c.len.result ≡ length (words_in stretch) =
    c.len.ensures ∙ ap (λ (z : List (List ℕ × Meaning)). length z) c.deref-in-loop-stretch.ensures in
    ap (λ (n : ℕ). lookup bytes_eq (take n (all_words (drop (c.loop-stretch.stretch-index + 1) stretches))) word) (c.saturating_sub-left.ensures ∙ ap (λ (n : ℕ). left - n) long)
    ∙ stretch-missed bytes_eq words_in stretches c.loop-stretch.stretch-index left stretch word c.loop-stretch-test.true c.stretch-item.is none
    ∙ c.loop-stretch.invariant
