use Rattle.std.proofs.Common.{◌∙◌, ◌++◌, Some, ap, sym, take}
use Rattle.std.specs.Prelude.{option_map}
use Rattle.std.specs.Str.{bytes_eq}
use Rattle.std.specs.Option.{option_copied}
use Rattle.tla_model.proofs.Stretching.{found-first}
use Rattle.name_context.specs.AsTables.{usable_words, taken_words, words_of}
use Rattle.name_context.proofs.Looking.{found-second, found-third, lookup-usable}
use Rattle.name_context.proofs.context.Context.word.Goals as goal

pub returns-in-Some : goal.returns-in-Some
returns-in-Some c =
    let self = c.args.self.now in
    sym (found-first bytes_eq (words_of self.before.entries) (usable_words (take self.shared_len (taken_words self.taken)) ++ words_of self.words.entries) c.args.word.now (option_copied c.in-Some.meaning) (sym c.in-Some.ensures))

pub returns-in-Some-taken_word : goal.returns-in-Some-taken_word
returns-in-Some-taken_word c =
    let self = c.args.self.now in
    let word = c.args.word.now in
    let shared_len = take self.shared_len (taken_words self.taken) in
    sym (found-second (words_of self.before.entries) (usable_words shared_len) (words_of self.words.entries) word (Some c.in-Some-taken_word.meaning.now) (sym c.in_default.ensures)
    (lookup-usable shared_len word ∙ ap (λ found. option_map (λ meaning. Some meaning) found) (sym c.in-Some-taken_word.ensures)))

pub returns : goal.returns
returns c =
    let self = c.args.self.now in
    let word = c.args.word.now in
    let shared_len = take self.shared_len (taken_words self.taken) in
    c.meaning_in-2.ensures
    ∙ sym (found-third (words_of self.before.entries) (usable_words shared_len) (words_of self.words.entries) word (sym c.in_default.ensures)
    (lookup-usable shared_len word ∙ ap (λ found. option_map (λ meaning. Some meaning) found) (sym c.in_default-taken_word.ensures)))
