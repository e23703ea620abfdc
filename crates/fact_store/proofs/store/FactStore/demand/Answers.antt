use Rattle.std.proofs.Common.{◌≤◌, List, Bool, sym, ap, ◌∙◌, subst, arith}
use Rattle.std.proofs.lemmas.Option.{slice_get_within}
use Rattle.std.proofs.lemmas.Result.{IfOk-weaker}
use Rattle.fact_values.specs.Values.{value}
use Rattle.std.specs.FinMap.{len}
use Rattle.fact_store.specs.Slots.{texts_of, owed}
use Rattle.fact_store.proofs.Dirt.{owed-le}
use Rattle.fact_store.specs.Right.{IsDone}
use Rattle.fact_store.proofs.KeepLemmas.{texts_of-same}
use Rattle.fact_store.proofs.StoreLemmas.{index_kept, no_text-value}
use Rattle.fact_store.proofs.store.FactStore.demand.Goals as goal

pub returns-in_default-clause-answer : goal.returns-in_default-clause-answer
returns-in_default-clause-answer g c =
    let D = g.D.Derive in let slots = c.self.inside.slots in
    no_text-value D.own_of D.needs_of D.fact_of D.same slots c.args.self.now.texts c.args.name.now c.self.invariant.right.sound
    c.in_default.ensures (ap (λ h. h.texts) c.self.view_is)

pub bring_up-requires-clause-index : goal.bring_up-requires-clause-index
bring_up-requires-clause-index g c =
    let p = c.in-Some.ensures in
    omega (arith, slice_get_within c.self.inside.slots c.in-Some.index p.0 p.1)

pub returns-in_err-bring_up-clause-texts : goal.returns-in_err-bring_up-clause-texts
returns-in_err-bring_up-clause-texts g c =
    texts_of-same c.bring_up.new.slots c.self.inside.slots c.in_err-bring_up.ensures.outlines ∙ ap (λ h. h.texts) c.self.view_is

pub fact_at-requires-clause-index : goal.fact_at-requires-clause-index
fact_at-requires-clause-index g c =
    let p = c.in-Some.ensures in
    let q = index_kept c.bring_up.new.slots c.self.inside.slots c.args.name.now c.in-Some.index c.in_ok-bring_up.ensures.outlines p in
    omega (arith, slice_get_within c.bring_up.new.slots c.in-Some.index q.0 q.1)

pub fact_at-requires-clause-done : goal.fact_at-requires-clause-done
fact_at-requires-clause-done g c = λ slot at.
    subst (λ (ms : List Bool). IsDone ms c.in-Some.index slot) (sym c.deref.ensures.value)
    (c.in_ok-bring_up.ensures.done slot at)

pub returns-clause-answer : goal.returns-clause-answer
returns-clause-answer g c =
    let D = g.D.Derive in let new = c.bring_up.new.slots in
    let p = c.in-Some.ensures in
    let q = index_kept new c.self.inside.slots c.args.name.now c.in-Some.index c.in_ok-bring_up.ensures.outlines p in
    let at = q.1 in
    let texts = texts_of-same new c.self.inside.slots c.in_ok-bring_up.ensures.outlines ∙ ap (λ h. h.texts) c.self.view_is in
    IfOk-weaker c.fact_at.result _ _ (λ answer h. h q.0 at ∙ ap (λ t. value D.own_of D.needs_of D.fact_of t (q.0).name) texts ∙ ap (value D.own_of D.needs_of D.fact_of c.args.self.now.texts) q.2) c.fact_at.ensures

pub returns-clause-texts : goal.returns-clause-texts
returns-clause-texts g c =
    texts_of-same c.bring_up.new.slots c.self.inside.slots c.in_ok-bring_up.ensures.outlines ∙ ap (λ h. h.texts) c.self.view_is

pub returns-in_default-clause-few : goal.returns-in_default-clause-few
returns-in_default-clause-few g c =
    let D = g.D.Derive in let slots = c.self.inside.slots in
    omega (arith, owed-le D.own_of D.needs_of D.fact_of D.same g.met.D.Derive.same_trans slots c.self.invariant.right.sound.distinct, ap (λ h. h.owed) c.self.view_is, ap (λ h. len h.texts) c.self.view_is)

pub returns-clause-few : goal.returns-clause-few
returns-clause-few g c =
    let D = g.D.Derive in let slots = c.bring_up.new.slots in
    let few = owed-le D.own_of D.needs_of D.fact_of D.same g.met.D.Derive.same_trans slots c.in_ok-bring_up.ensures.store.right.sound.distinct in
    IfOk-weaker c.fact_at.result _ (λ _. owed D.own_of D.needs_of D.fact_of D.same slots ≤ len (texts_of slots)) (λ answer h. few) c.fact_at.ensures
