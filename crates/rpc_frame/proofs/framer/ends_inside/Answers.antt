use Rattle.std.proofs.Common.{◌∙◌, ap, drop}
use Rattle.rpc_frame.proofs.Ends.{frame_passed, unfinished_ends, bad_ends, long_ends}
use Rattle.rpc_frame.proofs.framer.ends_inside.Goals as goal

pub frames-preserved : goal.frames-preserved
frames-preserved c =
    frame_passed c.args.bytes.now c.frames.rest.now c.behind-rest.result.now c.in-Frame.header c.in-Frame.content c.new-progress.result c.in-Frame.ensures (c.behind-rest.ensures ∙ ap (drop c.in-Frame.content) c.behind.ensures) c.new-progress.ensures c.frames.invariant.1

pub returns-in-Unfinished : goal.returns-in-Unfinished
returns-in-Unfinished c =
    unfinished_ends c.args.bytes.now c.frames.rest.now c.is_empty.result c.is_empty.ensures c.in-Unfinished.ensures c.frames.invariant.1

pub returns-in-Bad : goal.returns-in-Bad
returns-in-Bad c =
    bad_ends c.args.bytes.now c.frames.rest.now c.in-Bad.place c.in-Bad.ensures c.frames.invariant.1

pub returns-in-Long : goal.returns-in-Long
returns-in-Long c =
    long_ends c.args.bytes.now c.frames.rest.now c.in-Long.said c.in-Long.ensures c.frames.invariant.1
