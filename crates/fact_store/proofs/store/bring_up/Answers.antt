use Rattle.std.proofs.Common.{Option, length, ap, subst, arith}
use Rattle.fact_store.specs.declared.plan.Plan.{Plan}
use Rattle.fact_store.specs.Right.{HoldsPlan}
use Rattle.fact_store.proofs.Orders.{length-outlines}
use Rattle.fact_store.proofs.StoreLemmas.{HoldsPlan-same, IsStore-cover}
use Rattle.fact_store.proofs.store.bring_up.Goals as goal

pub returns-in_err-cover-clause-store : goal.returns-in_err-cover-clause-store
returns-in_err-cover-clause-store g c =
    let D = g.D.Derive in
    IsStore-cover D.own_of D.needs_of D.fact_of D.same c.args.slots.now c.args.plan.now c.args.plan.now c.args.current.now.items c.cover.new.marks.items c.requires.store c.requires.store.planned c.in_err-cover.ensures.marks (omega (arith, c.in_err-cover.ensures.most, c.len.ensures, c.cover.new.marks.ok.0))

pub returns-in_err-make_plan-clause-store : goal.returns-in_err-make_plan-clause-store
returns-in_err-make_plan-clause-store g c =
    let D = g.D.Derive in
    IsStore-cover D.own_of D.needs_of D.fact_of D.same c.args.slots.now c.args.plan.now c.make_plan.new.plan c.args.current.now.items c.cover.new.marks.items c.requires.store c.in_err-make_plan.ensures.plan c.in_ok-cover.ensures.marks (omega (arith, c.in_ok-cover.ensures.most, c.len.ensures, c.cover.new.marks.ok.0))

pub bring_all-requires-clause-right : goal.bring_all-requires-clause-right
bring_all-requires-clause-right g c =
    let D = g.D.Derive in
    (IsStore-cover D.own_of D.needs_of D.fact_of D.same c.args.slots.now c.args.plan.now c.make_plan.new.plan c.args.current.now.items c.cover.new.marks.items c.requires.store c.in_ok-make_plan.ensures.plan c.in_ok-cover.ensures.marks (omega (arith, c.in_ok-cover.ensures.most, c.len.ensures, c.cover.new.marks.ok.0))).right

pub bring_all-requires-clause-plan : goal.bring_all-requires-clause-plan
bring_all-requires-clause-plan g c = subst (λ (o : Option Plan). HoldsPlan c.args.slots.now o) c.in-Some.is c.in_ok-make_plan.ensures.plan

pub returns-clause-outlines : goal.returns-clause-outlines
returns-clause-outlines g c = c.bring_all.ensures.brings.outline_kept

pub returns-clause-rises : goal.returns-clause-rises
returns-clause-rises g c = c.bring_all.ensures.brings.rises

pub returns-clause-store : goal.returns-clause-store
returns-clause-store g c =
    let e = c.bring_all.ensures in let old = c.args.slots.now in let new = c.bring_all.new.slots in
    record {
      right = e.brings.right;
      planned = HoldsPlan-same new old c.make_plan.new.plan e.brings.outline_kept c.in_ok-make_plan.ensures.plan;
      marks = omega (arith, e.brings.marks, c.in_ok-cover.ensures.ok, c.len.ensures, c.cover.new.marks.ok.0, length-outlines old, length-outlines new, ap length e.brings.outline_kept);
    }
