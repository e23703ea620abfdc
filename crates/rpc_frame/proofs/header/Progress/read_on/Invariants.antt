use Rattle.std.proofs.Common.{◌-◌, length}
use Rattle.rpc_frame.specs.HeaderMachine.{HasRead}
use Rattle.rpc_frame.proofs.header.Progress.read_on.Given as goal

abbrev pub invariant-bytes : goal.invariant-bytes
invariant-bytes l = HasRead l.bytes (record { header = l.header; read = l.read })

abbrev pub decreases-bytes : goal.decreases-bytes
decreases-bytes l = length l.bytes - l.read
