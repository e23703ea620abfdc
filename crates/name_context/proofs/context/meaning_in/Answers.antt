use Rattle.std.proofs.Common.{◌∙◌}
use Rattle.name_context.proofs.Words.{lookup-words}
use Rattle.name_context.proofs.context.meaning_in.Goals as goal

pub returns : goal.returns
returns c = c.seen.ensures ∙ c.get.ensures.value ∙ lookup-words c.args.words.now.entries c.args.word.now
