use Rattle.std.proofs.Common.{◌++◌, length-append, arith}
use Rattle.frame_bench.proofs.Walk.{seen_fed}
use Rattle.frame_bench.proofs.count.count_further.Goals as goal

pub count_waiting-requires : goal.count_waiting-requires
count_waiting-requires c =
    let s = c.requires in
    (s.0 ++ c.args.piece.now, seen_fed c.args.task s.0 c.args.piece.now c.args.framer.now c.feed.new.self c.args.counts c.in_ok-feed.ensures.ok s.1, omega (arith, s.2, length-append s.0 c.args.piece.now))

pub returns : goal.returns
returns c = λ front h.
    c.in_ok-counts.ensures (front ++ c.args.piece.now) (seen_fed c.args.task front c.args.piece.now c.args.framer.now c.feed.new.self c.args.counts c.in_ok-feed.ensures.ok h)
