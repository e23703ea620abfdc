use Rattle.std.proofs.Common.{refl}
use Rattle.frame_bench.proofs.Walk.{counts_more}
use Rattle.frame_bench.proofs.counts.Counts.with.Goals as goal

pub returns : goal.returns
returns c = λ contents h.
    counts_more c.args.task contents c.args.content.now c.args.self _ c.in_ok-refused.refused c.in_ok-refused.ensures.counted refl refl refl h
