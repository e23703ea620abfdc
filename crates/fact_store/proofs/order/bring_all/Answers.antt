use Rattle.std.proofs.Common.{ℕ, ◌<◌, ◌≤◌, List, Some, length, subst, refl, sym, ap, ◌∙◌, ◌+◌, arith}
use Rattle.std.proofs.lemmas.Option.{slice_get_read}
use Rattle.index_graph.specs.Indices.{HasIndices, AreReached}
use Rattle.fact_store.proofs.Bringing.{brings_none, brings_then}
use Rattle.fact_store.proofs.Rows.{HasIndices-grounds}
use Rattle.fact_store.proofs.Orders.{length-outlines, IsPlan-same, IsReady-next, done-start, bringing-as, bringing-skip, bringing-more}
use Rattle.fact_store.proofs.order.bring_all.Goals.{then-index+in_ok-bring, else-index}
use Rattle.fact_store.proofs.order.bring_all.Goals as goal

pub reached-requires-clause-indices : goal.reached-requires-clause-indices
reached-requires-clause-indices g c = subst (λ (es : List (List ℕ)). HasIndices es) (sym c.deref.ensures.value) (HasIndices-grounds c.args.plan.now.edges.items c.args.plan.now.groups.items c.args.plan.now.grounds.items c.requires.plan.groups.long c.requires.plan.grounds)

pub loop-i-init : goal.loop-i-init
loop-i-init g c =
    let D = g.D.Derive in
    record {
      brings = brings_none D.own_of D.needs_of D.fact_of D.same c.args.slots.now c.args.slots.now c.args.current.now.items c.args.steps.now c.args.steps.now refl c.requires.right (omega arith);
      done = λ k e l. absurd (omega arith);
      counted = omega arith;
    }

pub index-requires : goal.index-requires
index-requires g c =
    let order = c.args.plan.now.order in let seen = c.in_ok-seen.seen.items in let index = c.index-next.result.now in
    let next = slice_get_read order.items (length order.items) c.loop-i.i index refl (omega (arith, c.loop-i-test.true, c.len-i-end.ensures, order.ok.0)) c.index-next.ensures in
    let plan = c.requires.plan in
    let reach = subst (λ (es : List (List ℕ)). AreReached es c.args.index seen) c.deref.ensures.value c.in_ok-seen.ensures in
    omega (arith, plan.within index (c.loop-i.i, next), plan.grounds.long, reach.long, c.in_ok-seen.seen.ok.0)

pub bring-requires-clause-plan : goal.bring-requires-clause-plan
bring-requires-clause-plan g c = IsPlan-same c.loop-i.slots c.args.slots.now c.args.plan.now c.loop-i.invariant.brings.outline_kept c.requires.plan

pub bring-requires-clause-ready : goal.bring-requires-clause-ready
bring-requires-clause-ready g c =
    let D = g.D.Derive in let plan = c.args.plan.now in let inv = c.loop-i.invariant in
    let order = c.args.plan.now.order in let seen = c.in_ok-seen.seen.items in let index = c.index-next.result.now in
    let next = slice_get_read order.items (length order.items) c.loop-i.i index refl (omega (arith, c.loop-i-test.true, c.len-i-end.ensures, order.ok.0)) c.index-next.ensures in
    let reach = subst (λ (es : List (List ℕ)). AreReached es c.args.index seen) c.deref.ensures.value c.in_ok-seen.ensures in
    let planned = IsPlan-same c.loop-i.slots c.args.slots.now plan inv.brings.outline_kept c.requires.plan in
    let l : index < length seen = omega (arith, planned.within index (c.loop-i.i, next), planned.grounds.long, reach.long) in
    let here = slice_get_read seen (length seen) index c.index.result.now refl l c.index.ensures ∙ ap Some c.if-index.true in
    IsReady-next D.own_of D.needs_of D.fact_of c.loop-i.slots inv.brings.right.sound c.loop-i.current.items plan planned c.args.index seen reach c.loop-i.i index next here inv.done

pub bring-requires-clause-index : goal.bring-requires-clause-index
bring-requires-clause-index g c =
    let order = c.args.plan.now.order in let seen = c.in_ok-seen.seen.items in let index = c.index-next.result.now in
    let next = slice_get_read order.items (length order.items) c.loop-i.i index refl (omega (arith, c.loop-i-test.true, c.len-i-end.ensures, order.ok.0)) c.index-next.ensures in
    let planned = IsPlan-same c.loop-i.slots c.args.slots.now c.args.plan.now c.loop-i.invariant.brings.outline_kept c.requires.plan in
    omega (arith, planned.within index (c.loop-i.i, next), planned.edges.long)

pub bring-requires-clause-marks : goal.bring-requires-clause-marks
bring-requires-clause-marks g c =
    let inv = c.loop-i.invariant.brings in
    omega (arith, c.requires.marks, inv.marks, ap length inv.outline_kept, length-outlines c.args.slots.now, length-outlines c.loop-i.slots, c.args.current.now.ok.0, c.loop-i.current.ok.0)

pub loop-i-preserved : goal.loop-i-preserved
loop-i-preserved g c =
    let D = g.D.Derive in let old = c.args.slots.now in let before = c.args.current.now.items in let first = c.args.steps.now in let now = c.loop-i in
    let order = c.args.plan.now.order in let seen = c.in_ok-seen.seen.items in let index = c.index-next.result.now in
    let next = slice_get_read order.items (length order.items) c.loop-i.i index refl (omega (arith, c.loop-i-test.true, c.len-i-end.ensures, order.ok.0)) c.index-next.ensures in
    let reach = subst (λ (es : List (List ℕ)). AreReached es c.args.index seen) c.deref.ensures.value c.in_ok-seen.ensures in
    let l : index < length seen = omega (arith, c.requires.plan.within index (now.i, next), c.requires.plan.grounds.long, reach.long) in
    let read = slice_get_read seen (length seen) index c.index.result.now refl l c.index.ensures in
    elim c.if-index.branch [
      | then-index+in_ok-bring w ↦
          let e = w.in_ok-bring.ensures in let new = w.bring.new in
          bringing-as D.own_of D.needs_of D.fact_of D.same old before first seen order.items new.slots _ new.current.items _ new.steps _ (now.i + 1) w.slots-is (ap (λ v. v.items) w.current-is) w.steps-is
          (bringing-more D.own_of D.needs_of D.fact_of D.same old before first seen order.items now.slots new.slots now.current.items new.current.items now.steps new.steps now.i index now.invariant next e.brings e.done e.counted)
      | else-index w ↦
          bringing-as D.own_of D.needs_of D.fact_of D.same old before first seen order.items now.slots _ now.current.items _ now.steps _ (now.i + 1) w.slots-is (ap (λ v. v.items) w.current-is) w.steps-is
          (bringing-skip D.own_of D.needs_of D.fact_of D.same old before first seen order.items now.slots now.current.items now.steps now.i index now.invariant next (read ∙ ap Some w.if-index.false))
    ]

pub returns-in_err-seen-clause-brings : goal.returns-in_err-seen-clause-brings
returns-in_err-seen-clause-brings g c =
    let D = g.D.Derive in
    brings_none D.own_of D.needs_of D.fact_of D.same c.args.slots.now c.args.slots.now c.args.current.now.items c.args.steps.now c.args.steps.now refl c.requires.right (omega arith)

pub returns-in_err-bring-clause-brings : goal.returns-in_err-bring-clause-brings
returns-in_err-bring-clause-brings g c =
    let D = g.D.Derive in
    brings_then D.own_of D.needs_of D.fact_of D.same c.args.slots.now c.loop-i.slots c.bring.new.slots c.args.current.now.items c.loop-i.current.items c.bring.new.current.items c.args.steps.now c.loop-i.steps c.bring.new.steps c.loop-i.invariant.brings c.in_err-bring.ensures.brings

pub returns-clause-done : goal.returns-clause-done
returns-clause-done g c =
    let D = g.D.Derive in let plan = c.args.plan.now in let inv = c.loop-i.invariant in let seen = c.in_ok-seen.seen.items in
    let reach = subst (λ (es : List (List ℕ)). AreReached es c.args.index seen) c.deref.ensures.value c.in_ok-seen.ensures in
    let planned = IsPlan-same c.loop-i.slots c.args.slots.now plan inv.brings.outline_kept c.requires.plan in
    let over : length plan.order.items ≤ c.loop-i.i = omega (arith, c.loop-i-test.false, c.len-i-end.ensures, plan.order.ok.0) in
    done-start D.own_of D.needs_of D.fact_of c.loop-i.slots inv.brings.right.sound c.loop-i.current.items plan planned c.args.index seen reach c.loop-i.i over inv.done
