use Rattle.fact_store.proofs.Rows.{AreGroundsUpto}
use Rattle.fact_store.proofs.plan.grounds_of.Given as goal

abbrev pub invariant-loop-index : goal.invariant-loop-index
invariant-loop-index l = AreGroundsUpto l.edges l.groups l.grounds.items l.index
