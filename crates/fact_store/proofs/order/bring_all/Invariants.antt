use Rattle.fact_store.proofs.Orders.{IsBringing}
use Rattle.fact_store.proofs.order.bring_all.Given as goal

abbrev pub invariant-loop-i : goal.invariant-loop-i
invariant-loop-i g l = let D = g.D.Derive in IsBringing D.own_of D.needs_of D.fact_of D.same l.fn.slots l.fn.current.items l.fn.steps l.seen.items l.plan.order.items l.slots l.current.items l.steps l.i
