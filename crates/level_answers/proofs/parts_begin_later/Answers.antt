use Rattle.level_answers.proofs.Answering.{parts_later}
use Rattle.level_answers.proofs.parts_begin_later.Goals as goal

pub returns : goal.returns
returns c = parts_later
