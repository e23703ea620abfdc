use Rattle.std.proofs.Common.{◌-◌, ◌≤◌, length, take}
use Rattle.rpc_frame.specs.Frames.{HasNoFrame}
use Rattle.frame_bench.specs.Counting.{HasSeen}
use Rattle.frame_bench.proofs.count.count.Given as goal

abbrev pub invariant-pieces : goal.invariant-pieces
invariant-pieces l = record {
  within : l.fed ≤ length l.stream;
  seen : HasSeen l.task (take l.fed l.stream) l.framer l.counts;
  none : HasNoFrame l.framer.waiting;
}

abbrev pub decreases-pieces : goal.decreases-pieces
decreases-pieces l = length l.stream - l.fed
