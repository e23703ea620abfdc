use Rattle.written_questions.proofs.Asks.{definition-asked}
use Rattle.written_questions.proofs.definitions_ask_as_written.Goals as goal

pub returns : goal.returns
returns c flat text means implied faces setting x lead roots asked ordered holds made = definition-asked flat ordered text means implied faces x holds setting lead roots asked made
