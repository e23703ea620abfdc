use Rattle.fact_store.proofs.Rows.{AreEdgesUpto}
use Rattle.fact_store.proofs.plan.edges_of.Given as goal

abbrev pub invariant-loop-index : goal.invariant-loop-index
invariant-loop-index g l = AreEdgesUpto l.slots l.edges.items l.index
