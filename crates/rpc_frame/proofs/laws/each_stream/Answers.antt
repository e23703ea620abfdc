use Rattle.rpc_frame.proofs.Streams.{comes_apart, one_apart, no_frame}
use Rattle.rpc_frame.proofs.laws.each_stream.Goals as goal

pub returns-clause-comes : goal.returns-clause-comes
returns-clause-comes c = comes_apart

pub returns-clause-one : goal.returns-clause-one
returns-clause-one c = one_apart

pub returns-clause-none : goal.returns-clause-none
returns-clause-none c = no_frame
