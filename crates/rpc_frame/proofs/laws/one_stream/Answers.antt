use Rattle.rpc_frame.proofs.OneReading.{one_stream}
use Rattle.rpc_frame.proofs.laws.one_stream.Goals as goal

pub returns : goal.returns
returns c = one_stream
