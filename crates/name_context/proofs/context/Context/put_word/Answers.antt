use Rattle.std.proofs.Common.{◌≡◌, ◌∙◌, ◌++◌, ◌∷◌, [], None, ap, append_assoc, sym, take}
use Rattle.std.specs.Prelude.{is_some}
use Rattle.std.specs.Str.{bytes_eq}
use Rattle.indexmap.proofs.CallerLemmas.{insert_entry-new}
use Rattle.tla_model.specs.Tables.{lookup}
use Rattle.tla_model.proofs.Stretching.{none-next}
use Rattle.name_context.specs.AsTables.{usable_words, taken_words, words_of}
use Rattle.name_context.proofs.Looking.{none-mapped}
use Rattle.name_context.proofs.Words.{added-new, lookup-words, words-append}
use Rattle.name_context.proofs.context.Context.put_word.Goals as goal

pub returns : goal.returns
returns c =
    let self = c.args.self.now in
    let word = c.args.word.now in
    let before = words_of self.before.entries in
    let shared_len = usable_words (take self.shared_len (taken_words self.taken)) in
    let own = words_of self.words.entries in
    let all = before ++ (shared_len ++ own) in
    let absent : lookup bytes_eq all word ≡ None = sym c.word.ensures ∙ none-mapped _ c.word.result (sym c.is_some.ensures ∙ c.if-is_some.false) in
    let more =
    ap words_of (c.in_ok-insert.ensures.entries ∙ insert_entry-new _ self.words c.args.word c.args.meaning (lookup-words self.words.entries word ∙ none-next bytes_eq shared_len own word (none-next bytes_eq before (shared_len ++ own) word absent)))
    ∙ words-append self.words.entries (c.args.word, c.args.meaning)
    in
    let words =
    ap (λ z. before ++ (shared_len ++ z)) more
    ∙ ap (λ z. before ++ z) (sym (append_assoc shared_len own ((word, c.args.meaning) ∷ []))) ∙ sym (append_assoc before (shared_len ++ own) ((word, c.args.meaning) ∷ []))
    ∙ added-new bytes_eq all word c.args.meaning (ap is_some absent)
    in
    λ i. record { words = words i; symbols = self.symbols.items }
