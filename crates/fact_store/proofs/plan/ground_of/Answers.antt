use Rattle.std.proofs.Common.{◌∙◌}
use Rattle.fact_store.proofs.Rows.{IsGround-skip_at, IsGround-more_at}
use Rattle.fact_store.proofs.plan.ground_of.Goals as goal
use Rattle.fact_store.proofs.plan.ground_of.Goals.{then-groups-index+in_ok-push, else-groups-index}

pub loop-index-preserved : goal.loop-index-preserved
loop-index-preserved c =
    let row = c.args.row.now in let k = c.loop-index.index-index in let l = c.loop-index-test.true in let ground = c.loop-index.ground in
    elim c.if-groups-index.branch [
      | then-groups-index+in_ok-push w ↦ IsGround-more_at c.args.groups.now c.args.group row ground _ k l c.loop-index.invariant (c.requires k 0 l) w.if-groups-index.true (w.ground-is ∙ w.in_ok-push.ensures.ok)
      | else-groups-index w ↦ IsGround-skip_at c.args.groups.now c.args.group row ground _ k l c.loop-index.invariant w.if-groups-index.false w.ground-is
    ]
