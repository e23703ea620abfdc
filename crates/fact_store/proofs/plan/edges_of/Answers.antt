use Rattle.std.proofs.Common.{ℕ, List, subst}
use Rattle.fact_store.specs.Plans.{IsRow}
use Rattle.fact_store.proofs.Rows.{AreEdgesUpto-more}
use Rattle.fact_store.proofs.plan.edges_of.Goals as goal

pub loop-index-preserved : goal.loop-index-preserved
loop-index-preserved g c =
    let slots = c.args.slots.now in let i = c.loop-index.index in let slot = c.at.result.now in let row = c.in_ok-row_of.field-0 in
    AreEdgesUpto-more slots c.loop-index.edges.items c.push.new.self.items i row slot c.loop-index.invariant c.at.ensures (subst (λ (xs : List (List ℕ)). IsRow slots xs row) c.needed.ensures c.in_ok-row_of.ensures) c.in_ok-push.ensures.items
