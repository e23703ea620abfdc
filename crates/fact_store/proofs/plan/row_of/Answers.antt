use Rattle.std.proofs.Common.{ℕ, List, ◌∙◌, subst}
use Rattle.fact_store.specs.Slots.{HasNoSlot, IsIndexOf}
use Rattle.fact_store.proofs.Rows.{IsRow-skip_at, IsRow-more_at}
use Rattle.fact_store.proofs.plan.row_of.Goals as goal
use Rattle.fact_store.proofs.plan.row_of.Goals.{in-Some+in_ok-add_once, in_default}

pub loop-name-preserved : goal.loop-name-preserved
loop-name-preserved g c =
    let slots = c.args.slots.now in let names = c.args.names.now in let k = c.loop-name.name-index in let row = c.loop-name.row in let n = c.name-item.result in
    elim c.match-index_of.branch [
      | in-Some+in_ok-add_once w ↦ IsRow-more_at slots names k row _ n w.in-Some.index c.requires c.loop-name-test.true c.name-item.is c.loop-name.invariant (subst (λ (x : List ℕ). IsIndexOf slots x w.in-Some.index) c.as_str.ensures w.in-Some.ensures) (w.row-is ∙ w.in_ok-add_once.ensures)
      | in_default w ↦ IsRow-skip_at slots names k row _ n c.loop-name-test.true c.name-item.is c.loop-name.invariant (subst (λ (x : List ℕ). HasNoSlot slots x) c.as_str.ensures w.in_default.ensures) w.row-is
    ]
