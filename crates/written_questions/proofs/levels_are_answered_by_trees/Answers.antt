use Rattle.written_questions.proofs.Answered.{levels-told}
use Rattle.written_questions.proofs.levels_are_answered_by_trees.Goals as goal

pub returns : goal.returns
returns c modules asked ordered = levels-told modules ordered asked
