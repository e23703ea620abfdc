use Rattle.rpc_frame.proofs.Written.{frame_written, stream_written, given_written, long_written}
use Rattle.rpc_frame.proofs.laws.written_is_read.Goals as goal

pub returns-clause-frame : goal.returns-clause-frame
returns-clause-frame c = frame_written

pub returns-clause-stream : goal.returns-clause-stream
returns-clause-stream c = stream_written

pub returns-clause-given : goal.returns-clause-given
returns-clause-given c = given_written

pub returns-clause-long : goal.returns-clause-long
returns-clause-long c = long_written
