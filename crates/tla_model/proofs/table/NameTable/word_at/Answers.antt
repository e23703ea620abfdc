use Rattle.std.proofs.Common.{◌≡◌, ◌∙◌, ◌+◌, ◌-◌, ℕ, None, drop, ap, sym, length, List}
use Rattle.std.specs.Prelude.{slice_get}
use Rattle.tla_model.specs.Entities.{Meaning}
use Rattle.tla_model.specs.Stretches.{all_words, shown, words_in}
use Rattle.tla_model.proofs.Stretching.{stretch-at, stretch-past}
use Rattle.tla_model.proofs.table.NameTable.word_at.Goals as goal

pub returns-in-Some : goal.returns-in-Some
returns-in-Some c =
    let left = c.loop-stretch.left in
    sym (stretch-at words_in c.as_slice-stretch-items.result.now c.loop-stretch.stretch-index left c.stretch-item.result (shown c.in-Some.entry)
    c.loop-stretch-test.true c.stretch-item.is (sym (c.in-Some.ensures ∙ ap (λ z. slice_get z left) (c.words.ensures ∙ c.deref.ensures))))
    ∙ c.loop-stretch.invariant

pub loop-stretch-preserved : goal.loop-stretch-preserved
loop-stretch-preserved c =
    let left = c.loop-stretch.left in
    let stretch = c.stretch-item.result in
    let stretches = c.as_slice-stretch-items.result.now in
    let none : slice_get (words_in stretch) left ≡ None = sym (c.in_default.ensures ∙ ap (λ z. slice_get z left) (c.words.ensures ∙ c.deref.ensures)) in
    let long : c.len.result ≡ length (words_in stretch) =
    c.len.ensures ∙ ap (λ (z : List (List ℕ × Meaning)). length z) c.deref-in-loop-stretch.ensures in
    ap (λ (n : ℕ). slice_get (all_words (drop (c.loop-stretch.stretch-index + 1) stretches)) n) (c.saturating_sub-left.ensures ∙ ap (λ (n : ℕ). left - n) long)
    ∙ stretch-past words_in stretches c.loop-stretch.stretch-index left stretch c.loop-stretch-test.true c.stretch-item.is none
    ∙ c.loop-stretch.invariant
