use Rattle.written_questions.proofs.Asks.{nodes-asked}
use Rattle.written_questions.proofs.nodes_ask_as_written.Goals as goal

pub returns : goal.returns
returns c flat text means implied faces setting x i asked ordered holds made = nodes-asked flat ordered text means implied faces x holds setting i asked made
