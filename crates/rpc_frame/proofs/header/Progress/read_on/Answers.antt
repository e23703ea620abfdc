use Rattle.std.proofs.Common.{take}
use Rattle.rpc_frame.proofs.Headers.{live_read}
use Rattle.rpc_frame.proofs.Fronts.{read_one}
use Rattle.rpc_frame.proofs.header.Progress.read_on.Goals as goal

pub after-requires : goal.after-requires
after-requires c = live_read (take c.bytes.read c.args.bytes.now) c.bytes.header c.bytes.invariant.1

pub bytes-preserved : goal.bytes-preserved
bytes-preserved c =
    read_one c.args.bytes.now (record { header = c.bytes.header; read = c.bytes.read }) c.in-Some.next c.bytes.invariant c.bytes-test.true c.in-Some.ensures
