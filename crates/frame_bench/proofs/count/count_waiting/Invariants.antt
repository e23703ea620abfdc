use Rattle.std.proofs.Common.{ℕ, ◌^◌, ◌<◌, List, length}
use Rattle.frame_bench.specs.Counting.{HasSeen}
use Rattle.frame_bench.proofs.count.count_waiting.Given as goal

abbrev pub invariant-frames : goal.invariant-frames
invariant-frames l = record {
  some : (front : List ℕ) × HasSeen l.task front l.framer l.counts × (length front < 2 ^ 26);
  each : (front : List ℕ) → HasSeen l.task front l.fn.framer l.fn.counts → HasSeen l.task front l.framer l.counts;
}

abbrev pub decreases-frames : goal.decreases-frames
decreases-frames l = length l.framer.waiting
