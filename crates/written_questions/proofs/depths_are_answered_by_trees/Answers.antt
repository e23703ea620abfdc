use Rattle.written_questions.proofs.Answered.{depths-answered}
use Rattle.written_questions.proofs.depths_are_answered_by_trees.Goals as goal

pub returns : goal.returns
returns c modules asked = depths-answered modules asked
