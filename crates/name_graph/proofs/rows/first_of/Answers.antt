use Rattle.std.proofs.Common.{inl, inr, get_or}
use Rattle.std.proofs.lemmas.Option.{slice_get-get_or}
use Rattle.name_graph.proofs.Ordering.{first-step, first-all}
use Rattle.name_graph.proofs.rows.first_of.Goals.{then-lt, else-lt}
use Rattle.name_graph.proofs.rows.first_of.Goals as goal

pub loop-index-preserved : goal.loop-index-preserved
loop-index-preserved c =
    let indices = c.args.indices.now in let k = c.loop-index.index-index in
    first-step c.args.rows.now.entries indices k c.loop-index.first (get_or indices k 0) c.if-lt.first c.lt.result c.name_at.result.now c.name_at-in-loop-index.result.now (slice_get-get_or indices k 0 c.loop-index-test.true) c.loop-index.invariant c.lt.ensures c.name_at.ensures c.name_at-in-loop-index.ensures
    (elim c.if-lt.branch [ then-lt w ↦ inl (w.if-lt.true, w.first-is) | else-lt w ↦ inr (w.if-lt.false, w.first-is) ])

pub returns : goal.returns
returns c = first-all c.args.rows.now.entries c.args.indices.now c.loop-index.index-index c.loop-index.first c.loop-index-test.false c.loop-index.invariant
