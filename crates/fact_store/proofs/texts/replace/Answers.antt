use Rattle.std.proofs.Common.{◌≡◌, List, Option, None, refl, sym, subst}
use Rattle.fact_store.specs.declared.slot.Slot.{Slot}
use Rattle.fact_store.specs.declared.plan.Plan.{Plan}
use Rattle.fact_store.specs.Right.{HoldsPlan}
use Rattle.fact_store.proofs.PutLemmas.{with_text, HoldsPlan-set}
use Rattle.fact_store.proofs.texts.replace.Goals as goal
use Rattle.fact_store.proofs.texts.replace.Goals.{then-not-same_names+in-Some-1, then-not-same_names+in-None-1, else-not-same_names}

pub returns-clause-plan : goal.returns-clause-plan
returns-clause-plan g c =
    let slots = c.args.slots.now in let x = c.at.result.now in let index = c.args.index in let new = c.set_text.new.self in
    let written = c.set_text.ensures x c.at.ensures in
    let to = λ (p q : Option Plan) (e : q ≡ p) (h : HoldsPlan new p). subst (λ (o : Option Plan). HoldsPlan new o) (sym e) h in
    elim c.if-not-same_names.branch [
      | then-not-same_names+in-Some-1 w ↦ to None _ w.plan-is tt
      | then-not-same_names+in-None-1 w ↦ to None _ w.plan-is tt
      | else-not-same_names w ↦
          to c.args.plan.now _ w.plan-is
          (subst (λ (ss : List (Slot g.row.O.Denot g.row.F.Denot)). HoldsPlan ss c.args.plan.now) (sym written)
          (HoldsPlan-set slots index x (with_text x c.into_text-bytes.result.0 c.into_text-bytes.result.1 c.into_text-bytes.result.2) c.args.plan.now c.at.ensures refl (sym (c.same_names.ensures w.if-not-same_names.false)) c.requires.plan))
    ]
