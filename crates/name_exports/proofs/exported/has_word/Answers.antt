use Rattle.std.proofs.Common.{◌∙◌, ap, sym}
use Rattle.std.specs.Prelude.{is_some}
use Rattle.name_context.specs.AsTables.{taken_words, words_of}
use Rattle.name_exports.proofs.Owning.{in-first, in-neither}
use Rattle.name_context.proofs.Words.{lookup-words}
use Rattle.name_exports.proofs.exported.has_word.Goals as goal

pub returns-then-is_taken : goal.returns-then-is_taken
returns-then-is_taken c = c.if-is_taken.true ∙ sym (in-first (taken_words c.args.taken) (words_of c.args.words.now.entries) c.args.word.now (sym c.if-is_taken.ensures))

pub returns-else-is_taken : goal.returns-else-is_taken
returns-else-is_taken c =
    let entries = c.args.words.now.entries in
    c.contains_key.ensures ∙ ap is_some (lookup-words entries c.args.word.now) ∙ sym (in-neither (taken_words c.args.taken) (words_of entries) c.args.word.now (sym c.if-is_taken.ensures))
