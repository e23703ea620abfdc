use Rattle.written_trees.proofs.Told.{nodes-told}
use Rattle.written_trees.proofs.nodes_have_written_trees.Goals as goal

pub returns : goal.returns
returns c flat text means implied faces setting x i asked ordered holds made = nodes-told flat ordered text means implied faces x holds setting i asked made
