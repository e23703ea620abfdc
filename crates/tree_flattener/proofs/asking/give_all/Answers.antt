use Rattle.std.proofs.Common.{refl}
use Rattle.tree_flattener.proofs.Numbering.{give-onward}
use Rattle.tree_flattener.proofs.asking.give_all.Goals as goal

pub loop-question-preserved : goal.loop-question-preserved
loop-question-preserved c = give-onward c.args.number c.args.asked.now c.loop-question.asked c.loop-question.question-index _ _ c.loop-question-test.true c.loop-question.invariant refl c.about-question.ensures
