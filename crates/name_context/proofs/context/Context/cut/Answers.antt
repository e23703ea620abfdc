use Rattle.std.proofs.Common.{◌≡◌, ◌∙◌, ◌++◌, ◌-◌, ap, length, sym, take}
use Rattle.name_context.specs.AsTables.{usable_words, taken_words, words_of}
use Rattle.name_context.proofs.Looking.{something-length, something-take, take-min, take-three, words-length}
use Rattle.name_context.proofs.Words.{words-take}
use Rattle.name_context.proofs.context.Context.cut.Goals as goal

pub returns : goal.returns
returns c =
    let self = c.args.self.now in
    let n = c.args.mark.words in
    let taken = taken_words self.taken in
    let before = words_of self.before.entries in
    let shared_len = usable_words (take self.shared_len taken) in
    let own = words_of self.words.entries in
    let behind : c.saturating_sub-behind.result ≡ n - length before = c.saturating_sub-behind.ensures ∙ ap (λ k. n - k) (c.len.ensures.len ∙ sym (words-length self.before.entries)) in
    let last : c.saturating_sub.result ≡ (n - length before) - length shared_len =
    c.saturating_sub.ensures ∙ (λ i. behind i - (c.shared_len-shared_len.ensures ∙ sym (something-length (take self.shared_len taken))) i)
    in
    let first = ap words_of c.truncate-2.ensures.entries ∙ words-take n self.before.entries in
    let middle =
    ap (λ k. usable_words (take k taken)) c.min-self.ensures
    ∙ ap usable_words (sym (take-min c.saturating_sub-behind.result self.shared_len taken))
    ∙ sym (something-take c.saturating_sub-behind.result (take self.shared_len taken))
    ∙ ap (λ k. take k shared_len) behind
    in
    let rest = ap words_of c.truncate.ensures.entries ∙ words-take c.saturating_sub.result self.words.entries ∙ ap (λ k. take k own) last in
    let symbols = c.truncate-3.ensures.items in
    (λ i. record { words = first i ++ (middle i ++ rest i); symbols = symbols i })
    ∙ (λ i. record { words = sym (take-three n before shared_len own) i; symbols = take c.args.mark.symbols self.symbols.items })
