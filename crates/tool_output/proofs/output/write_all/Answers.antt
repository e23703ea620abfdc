use Rattle.std.proofs.Common.{◌++◌, take, append_assoc, ◌∙◌}
use Rattle.std.proofs.lemmas.List.{take-append-drop}
use Rattle.tool_output.proofs.Appending.{appends_both}
use Rattle.tool_output.proofs.output.write_all.Goals as goal

pub loop-rest-preserved : goal.loop-rest-preserved
loop-rest-preserved g c =
    let before = c.loop-rest.invariant.0 in
    let n = c.in_ok-count.count in
    let rest = c.loop-rest.rest.now in (
      (
        before.0 ++ take n rest,
        rw (c.skip-rest.ensures, append_assoc, take-append-drop n rest) before.1,
        appends_both (g.K.Sink.taken c.args.output.now) (g.K.Sink.taken c.loop-rest.output) (g.K.Sink.taken c.write.new.self) before.0 (take n rest) before.2 c.in_ok-count.ensures.bytes,
      ),
      c.in_ok-count.ensures.cause ∙ c.loop-rest.invariant.1,
    )
