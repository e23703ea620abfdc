use Rattle.std.proofs.Common.{sym}
use Rattle.fact_store.proofs.Pairs.{same_given-long}
use Rattle.fact_store.proofs.fresh.same_pairs.Goals as goal

pub returns-then-a-b : goal.returns-then-a-b
returns-then-a-b g c = sym (same_given-long g.D.Derive.same c.args.a.now c.args.b.now c.if-a-b.true)
