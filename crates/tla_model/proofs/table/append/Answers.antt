use Rattle.std.proofs.Common.{◌∙◌, sym}
use Rattle.tla_model.proofs.Stretching.{words-added}
use Rattle.tla_model.proofs.table.append.Goals as goal

pub loop-index-preserved : goal.loop-index-preserved
loop-index-preserved c =
    words-added c.loop-index.words c.insert.new.self.entries c.args.words.now.entries c.args.more.now.entries c.loop-index.index c.in_ok-word.word c.in-Some.word.now
    c.in_ok-copied.field-0 c.in-Some.meaning.now c.loop-index.invariant c.requires (sym c.in-Some.ensures.entry)
    (c.in_ok-word.ensures.ok ∙ c.as_str.ensures.value) c.in_ok-copied.ensures c.in_ok-insert.ensures.entries
