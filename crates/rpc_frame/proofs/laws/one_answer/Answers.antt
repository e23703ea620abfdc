use Rattle.rpc_frame.proofs.OneReading.{one_answer}
use Rattle.rpc_frame.proofs.laws.one_answer.Goals as goal

pub returns : goal.returns
returns c = one_answer
