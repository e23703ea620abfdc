use Rattle.fact_store.specs.Right.{HoldsPlan}
use Rattle.fact_store.proofs.Batches.{IsUpTo}
use Rattle.fact_store.proofs.batch.put_all.Given as goal

abbrev pub invariant-loop-index : goal.invariant-loop-index
invariant-loop-index g l = let D = g.D.Derive in record {
  up_to : IsUpTo D.own_of D.needs_of D.fact_of l.fn.slots l.slots l.texts l.index;
  planned : HoldsPlan l.slots l.plan;
}
