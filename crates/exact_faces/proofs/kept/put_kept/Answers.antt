use Rattle.std.proofs.Common.{◌∙◌}
use Rattle.tla_model.specs.Stretches.{words_of}
use Rattle.exact_faces.proofs.Keeping.{word-kept, word-put}
use Rattle.exact_faces.proofs.kept.put_kept.Goals as goal

pub returns : goal.returns
returns c =
    word-put c.args.words.now c.insert.new.self.entries c.in_ok-word.word c.args.word.now c.in_ok-meaning.meaning c.args.meaning.now
    c.requires c.in_ok-word.ensures.ok c.in_ok-meaning.ensures c.in_ok-insert.ensures.entries
    ∙ word-kept (words_of c.args.words.now.entries) (c.args.word.now, c.args.meaning.now) c.if-not-stands_behind.ensures
