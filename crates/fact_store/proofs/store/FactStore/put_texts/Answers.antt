use Rattle.std.proofs.Common.{ap}
use Rattle.fact_store.proofs.Dirt.{owed-le, owed-carried}
use Rattle.fact_store.proofs.StoreLemmas.{owed-at}
use Rattle.fact_store.proofs.store.FactStore.put_texts.Goals as goal

pub returns-clause-owed : goal.returns-clause-owed
returns-clause-owed g c =
    let D = g.D.Derive in let old = c.self.inside.slots in let new = c.put_all.new.slots in let e = c.put_all.ensures in
    owed-at D.own_of D.needs_of D.fact_of D.same old c.args.self.now.texts c.args.self.now.owed new (ap (λ h. h.texts) c.self.view_is) (ap (λ h. h.owed) c.self.view_is)
    (owed-carried D.own_of D.needs_of D.fact_of D.same g.met.D.Derive.same_trans old new c.self.invariant.right.sound.distinct e.sound.distinct e.carries)

pub returns-clause-few : goal.returns-clause-few
returns-clause-few g c =
    let D = g.D.Derive in
    owed-le D.own_of D.needs_of D.fact_of D.same g.met.D.Derive.same_trans c.put_all.new.slots c.put_all.ensures.sound.distinct
