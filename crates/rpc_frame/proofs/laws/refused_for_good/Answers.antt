use Rattle.rpc_frame.proofs.OneReading.{bad_stays, too_long_stays}
use Rattle.rpc_frame.proofs.laws.refused_for_good.Goals as goal

pub returns-clause-bad : goal.returns-clause-bad
returns-clause-bad c = bad_stays

pub returns-clause-long : goal.returns-clause-long
returns-clause-long c = too_long_stays
