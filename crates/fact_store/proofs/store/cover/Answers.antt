use Rattle.std.proofs.Common.{ap, ◌∙◌, arith}
use Rattle.fact_store.specs.Plans.{is_marked}
use Rattle.fact_store.proofs.Marks.{is_marked-unset}
use Rattle.fact_store.proofs.store.cover.Goals as goal

pub loop-preserved : goal.loop-preserved
loop-preserved c =
    let inv = c.loop.invariant in
    record {
      marks = λ i. ap (λ ms. is_marked ms i) c.in_ok-push.ensures.items ∙ is_marked-unset c.loop.marks.items i ∙ inv.marks i;
      long = omega (arith, inv.long, c.in_ok-push.ensures.len);
      most = omega (arith, inv.long, c.in_ok-push.ensures.len, c.loop-test.true);
    }
