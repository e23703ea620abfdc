use Rattle.rpc_frame.proofs.OneReading.{next_counted, unfinished_short}
use Rattle.rpc_frame.proofs.laws.waiting_is_bounded.Goals as goal

pub returns-clause-counted : goal.returns-clause-counted
returns-clause-counted c = next_counted

pub returns-clause-short : goal.returns-clause-short
returns-clause-short c = unfinished_short
