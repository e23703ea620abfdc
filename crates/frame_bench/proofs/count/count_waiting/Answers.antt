use Rattle.std.proofs.Common.{ℕ, List, length, ap, arith}
use Rattle.frame_bench.specs.Counting.{HasSeen}
use Rattle.frame_bench.proofs.Walk.{room_for, seen_more, seen_as, other_stays}
use Rattle.frame_bench.proofs.count.count_waiting.Goals as goal

pub with-requires : goal.with-requires
with-requires c =
    let s = c.frames.invariant.some in
    let room = room_for c.args.task s.0 c.frames.framer c.next.new.self c.frames.counts c.in-Message.ensures s.1 in
    omega (arith, room, s.2, ap length c.content.ensures)

pub frames-preserved : goal.frames-preserved
frames-preserved c =
    let more = λ (front : List ℕ) (s : HasSeen c.args.task front c.frames.framer c.frames.counts). seen_more c.args.task front c.frames.framer c.next.new.self c.frames.counts c.in_ok-counts-in-Message.counts c.content.result.now c.in-Message.ensures c.content.ensures c.in_ok-counts-in-Message.ensures s in
    let s = c.frames.invariant.some in
    record {
      some = (s.0, more s.0 s.1, s.2);
      each = λ front h. more front (c.frames.invariant.each front h);
    }

pub returns-in_default : goal.returns-in_default
returns-in_default c = λ front h.
    let stays = other_stays c.frames.framer c.next.result c.next.new.self c.next.ensures c.in_default.not-Message in
    (seen_as c.args.task front c.frames.framer c.next.new.self c.frames.counts stays.0 (c.frames.invariant.each front h), stays.1)
