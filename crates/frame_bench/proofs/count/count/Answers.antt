use Rattle.std.proofs.Common.{take, sym, ◌∙◌, arith}
use Rattle.frame_bench.proofs.Walk.{seen_none, further, further_within, seen_front}
use Rattle.frame_bench.proofs.count.count.Goals as goal

pub pieces-init : goal.pieces-init
pieces-init c =
    let none = seen_none c.args.task c.new-framer.result c.none-counts.result c.new-framer.ensures (c.none-counts.ensures c.args.task) in
    record { within = omega arith; seen = none.0; none = none.1 }

pub pieces-preserved : goal.pieces-preserved
pieces-preserved c =
    let stream = c.args.stream.now in
    let piece = c.next_piece-piece.result.now in
    let front = c.next_piece-piece.ensures.front in
    let split = sym c.behind.ensures ∙ front.1 in
    let after = c.in_ok-counts.ensures (take c.pieces.fed stream) c.pieces.invariant.seen in
    record {
      within = further_within stream piece front.0 c.pieces.fed c.pieces.invariant.within split;
      seen = seen_front c.args.task _ _ c.count_further.new.framer c.in_ok-counts.counts (further stream piece front.0 c.pieces.fed split) after.0;
      none = after.1;
    }
