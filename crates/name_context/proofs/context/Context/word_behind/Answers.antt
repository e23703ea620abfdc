use Rattle.std.proofs.Common.{◌≡◌, ◌∙◌, ◌-◌, ℕ, ap, arith, length, sym, take}
use Rattle.std.specs.Prelude.{slice_get}
use Rattle.std.proofs.lemmas.Option.{IfSome_then}
use Rattle.tla_model.specs.Stretches.{shown}
use Rattle.name_context.specs.AsTables.{taken_words, usable, usable_words, words_of}
use Rattle.name_context.proofs.Looking.{something-length}
use Rattle.name_context.proofs.Places.{at-first-many, at-others, at-usable}
use Rattle.name_context.proofs.context.Context.word_behind.Goals as goal

pub returns-then-index-shared_len : goal.returns-then-index-shared_len
returns-then-index-shared_len c =
    let self = c.args.self.now in
    let many = c.shared_len-shared_len.ensures in
    let within = c.if-index-shared_len.true in
    IfSome_then c.taken_at.result c.taken_at.ensures (λ found at.
    at-usable (take self.shared_len (taken_words self.taken)) (words_of self.words.entries) c.args.index (shown found)
    (at-first-many self.shared_len (taken_words self.taken) c.args.index (shown found) (omega (arith, many, within)) at))

pub returns-else-index-shared_len : goal.returns-else-index-shared_len
returns-else-index-shared_len c =
    let self = c.args.self.now in
    let shared = take self.shared_len (taken_words self.taken) in
    let own = words_of self.words.entries in
    let many : c.shared_len-shared_len.result ≡ length (usable_words shared) = c.shared_len-shared_len.ensures ∙ sym (something-length shared) in
    let past = c.if-index-shared_len.false in
    IfSome_then c.usable_at.result c.usable_at.ensures (λ found at.
    at-others (usable_words shared) own c.args.index (usable (shown found)) (omega (arith, many, past))
    (ap (λ (k : ℕ). slice_get own (c.args.index - k)) (sym many) ∙ at))
