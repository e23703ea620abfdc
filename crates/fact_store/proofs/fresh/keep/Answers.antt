use Rattle.std.proofs.Common.{sym, ap, ◌∙◌}
use Rattle.fact_store.specs.declared.slot.Slot.{Slot}
use Rattle.fact_store.specs.Given.{states}
use Rattle.fact_store.specs.Right.{is_fresh}
use Rattle.fact_store.proofs.InputLemmas.{one_at}
use Rattle.fact_store.proofs.Keeping.{keeps-again, keeps-derived}
use Rattle.fact_store.proofs.fresh.keep.Goals as goal

pub returns-then-is_fresh-clause-kept : goal.returns-then-is_fresh-clause-kept
returns-then-is_fresh-clause-kept g c = λ slot at.
    let D = g.D.Derive in
    let here = one_at c.args.slots.now c.args.index slot c.at.result.now at c.at.ensures in
    keeps-again D.own_of D.needs_of D.fact_of D.same g.met.D.Derive.same_refl c.args.slots.now c.set_inputs.new.self c.args.index slot c.args.given (c.requires.sound slot at) g.met.D.Derive.respects
    (ap (λ (z : Slot g.row.D-Own.Denot g.row.D-Fact.Denot). is_fresh D.same z.kept (states c.args.given)) here ∙ sym c.if-is_fresh.ensures) (c.set_inputs.ensures slot at)

pub derive-requires : goal.derive-requires
derive-requires g c = c.requires.comes c.at-2.result.now c.at-2.ensures

pub returns-clause-kept : goal.returns-clause-kept
returns-clause-kept g c = λ slot at.
    let D = g.D.Derive in
    let here = one_at c.args.slots.now c.args.index slot c.at-2.result.now at c.at-2.ensures in
    keeps-derived D.own_of D.needs_of D.fact_of D.same g.met.D.Derive.same_refl c.args.slots.now c.keep.new.self c.args.index slot c.args.given (c.requires.sound slot at) c.in_ok-kept.kept c.in_ok-kept.ensures.from c.in_ok-kept.ensures.given
    (c.in_ok-kept.ensures.fact ∙ ap (λ (z : Slot g.row.D-Own.Denot g.row.D-Fact.Denot). D.fact_of z.name z.own (states c.args.given)) (sym here)) (c.keep.ensures slot at)
