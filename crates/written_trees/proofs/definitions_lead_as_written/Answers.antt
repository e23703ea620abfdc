use Rattle.written_trees.proofs.Told.{definition-place}
use Rattle.written_trees.proofs.definitions_lead_as_written.Goals as goal

pub returns : goal.returns
returns c flat text means implied faces setting x lead roots asked ordered holds made = definition-place flat ordered text means implied faces x holds setting lead roots asked made
