use Rattle.std.proofs.Common.{List, Option, sym, ap, subst}
use Rattle.fact_store.specs.declared.slot.Slot.{Slot}
use Rattle.fact_store.specs.declared.plan.Plan.{Plan}
use Rattle.fact_store.specs.Slots.{AreSound, CarriesOver}
use Rattle.fact_store.specs.Right.{HoldsPlan}
use Rattle.fact_store.proofs.Dirt.{owed-le, owed-carried}
use Rattle.fact_store.proofs.StoreLemmas.{IsStore-unmarked, owed-at}
use Rattle.fact_store.proofs.store.FactStore.put_text.Goals as goal
use Rattle.fact_store.proofs.store.FactStore.put_text.Goals.{in-Some+in_ok-put-in-Some, in-None}

pub invariant_of-self-2 : goal.invariant_of-self-2
invariant_of-self-2 g c =
    let D = g.D.Derive in let inside = c.match-bytes.self-inside in
    let sound : AreSound D.own_of D.needs_of D.fact_of inside.slots = elim c.match-bytes.branch [
      | in-Some+in_ok-put-in-Some w ↦ subst (λ (ss : List (Slot g.row.D-Own.Denot g.row.D-Fact.Denot)). AreSound D.own_of D.needs_of D.fact_of ss) (sym (ap (λ z. z.slots) w.self-inside-is)) w.in_ok-put-in-Some.ensures.sound
      | in-None w ↦ subst (λ (ss : List (Slot g.row.D-Own.Denot g.row.D-Fact.Denot)). AreSound D.own_of D.needs_of D.fact_of ss) (sym (ap (λ z. z.slots) w.self-inside-is)) w.take_out.ensures.sound
    ] in
    let planned : HoldsPlan inside.slots inside.plan = elim c.match-bytes.branch [
      | in-Some+in_ok-put-in-Some w ↦
          subst (λ (ss : List (Slot g.row.D-Own.Denot g.row.D-Fact.Denot)). HoldsPlan ss inside.plan) (sym (ap (λ z. z.slots) w.self-inside-is))
          (subst (λ (p : Option Plan). HoldsPlan w.put.new.slots p) (sym (ap (λ z. z.plan) w.self-inside-is)) w.in_ok-put-in-Some.ensures.plan)
      | in-None w ↦
          subst (λ (ss : List (Slot g.row.D-Own.Denot g.row.D-Fact.Denot)). HoldsPlan ss inside.plan) (sym (ap (λ z. z.slots) w.self-inside-is))
          (subst (λ (p : Option Plan). HoldsPlan w.take_out.new.slots p) (sym (ap (λ z. z.plan) w.self-inside-is)) w.take_out.ensures.plan)
    ] in
    IsStore-unmarked D.own_of D.needs_of D.fact_of D.same inside.slots inside.plan c.clear.new.self.items sound planned c.clear.ensures.items

pub returns-clause-owed : goal.returns-clause-owed
returns-clause-owed g c =
    let D = g.D.Derive in let inside = c.match-bytes.self-inside in let old = c.self.inside.slots in
    let sound : AreSound D.own_of D.needs_of D.fact_of inside.slots = elim c.match-bytes.branch [
      | in-Some+in_ok-put-in-Some w ↦ subst (λ (ss : List (Slot g.row.D-Own.Denot g.row.D-Fact.Denot)). AreSound D.own_of D.needs_of D.fact_of ss) (sym (ap (λ z. z.slots) w.self-inside-is)) w.in_ok-put-in-Some.ensures.sound
      | in-None w ↦ subst (λ (ss : List (Slot g.row.D-Own.Denot g.row.D-Fact.Denot)). AreSound D.own_of D.needs_of D.fact_of ss) (sym (ap (λ z. z.slots) w.self-inside-is)) w.take_out.ensures.sound
    ] in
    let carries : CarriesOver old inside.slots = elim c.match-bytes.branch [
      | in-Some+in_ok-put-in-Some w ↦ subst (λ (ss : List (Slot g.row.D-Own.Denot g.row.D-Fact.Denot)). CarriesOver old ss) (sym (ap (λ z. z.slots) w.self-inside-is)) w.in_ok-put-in-Some.ensures.carries
      | in-None w ↦ subst (λ (ss : List (Slot g.row.D-Own.Denot g.row.D-Fact.Denot)). CarriesOver old ss) (sym (ap (λ z. z.slots) w.self-inside-is)) w.take_out.ensures.carries
    ] in
    owed-at D.own_of D.needs_of D.fact_of D.same old c.args.self.now.texts c.args.self.now.owed inside.slots (ap (λ h. h.texts) c.self.view_is) (ap (λ h. h.owed) c.self.view_is)
    (owed-carried D.own_of D.needs_of D.fact_of D.same g.met.D.Derive.same_trans old inside.slots c.self.invariant.right.sound.distinct sound.distinct carries)

pub returns-clause-few : goal.returns-clause-few
returns-clause-few g c =
    let D = g.D.Derive in let inside = c.match-bytes.self-inside in
    let sound : AreSound D.own_of D.needs_of D.fact_of inside.slots = elim c.match-bytes.branch [
      | in-Some+in_ok-put-in-Some w ↦ subst (λ (ss : List (Slot g.row.D-Own.Denot g.row.D-Fact.Denot)). AreSound D.own_of D.needs_of D.fact_of ss) (sym (ap (λ z. z.slots) w.self-inside-is)) w.in_ok-put-in-Some.ensures.sound
      | in-None w ↦ subst (λ (ss : List (Slot g.row.D-Own.Denot g.row.D-Fact.Denot)). AreSound D.own_of D.needs_of D.fact_of ss) (sym (ap (λ z. z.slots) w.self-inside-is)) w.take_out.ensures.sound
    ] in
    owed-le D.own_of D.needs_of D.fact_of D.same g.met.D.Derive.same_trans inside.slots sound.distinct
