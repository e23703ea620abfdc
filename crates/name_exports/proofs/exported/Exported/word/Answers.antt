use Rattle.std.proofs.Common.{◌∙◌, ap, sym}
use Rattle.std.specs.Str.{bytes_eq}
use Rattle.tla_model.specs.Entities.{Meaning}
use Rattle.tla_model.specs.Tables.{Table, lookup}
use Rattle.tla_model.proofs.Stretching.{found-first, found-next}
use Rattle.name_context.specs.AsTables.{taken_words, words_of}
use Rattle.name_context.proofs.Words.{lookup-words}
use Rattle.name_exports.proofs.exported.Exported.word.Goals as goal

pub returns-in-Some : goal.returns-in-Some
returns-in-Some c =
    let word = c.args.word.now in
    sym (found-first bytes_eq (taken_words c.self.inside.taken) (words_of c.self.inside.words.entries) word c.in-Some.meaning.now (sym c.in-Some.ensures))
    ∙ ap (λ (t : Table Meaning). lookup bytes_eq t.words word) c.self.view_is

pub returns : goal.returns
returns c =
    let word = c.args.word.now in
    let own = c.self.inside.words.entries in
    c.get.ensures.value ∙ lookup-words own word ∙ sym (found-next bytes_eq (taken_words c.self.inside.taken) (words_of own) word (sym c.in_default.ensures))
    ∙ ap (λ (t : Table Meaning). lookup bytes_eq t.words word) c.self.view_is
