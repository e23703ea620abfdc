use Rattle.std.proofs.Common.{sym}
use Rattle.tla_model.specs.Stretches.{shown}
use Rattle.face_views.proofs.Comparing.{same-next}
use Rattle.face_views.proofs.table.are_same_words.Goals as goal

pub loop-index-preserved : goal.loop-index-preserved
loop-index-preserved c =
    same-next c.loop-index.index c.args.one.now.words c.args.other.now.words (shown c.in-Some.word) (shown c.in-Some-word_at.second)
    (sym c.in-Some.ensures) (sym c.in-Some-word_at.ensures) c.if-not-is_same_word.ensures c.loop-index.invariant
