use Rattle.std.proofs.Common.{sym, ap, subst}
use Rattle.fact_store.specs.declared.slot.Slot.{Slot}
use Rattle.fact_store.specs.Slots.{HasNoSlot}
use Rattle.fact_store.proofs.PutFacts.{slot_over, slot_new}
use Rattle.fact_store.proofs.texts.put.Goals as goal

pub push-requires : goal.push-requires
push-requires g c =
    subst (HasNoSlot c.args.slots.now) (sym (ap (λ (z : Slot g.row.D-Own.Denot g.row.D-Fact.Denot). z.name) c.in_ok-slot.ensures)) c.in_default.ensures

pub returns-in_default-clause-sound : goal.returns-in_default-clause-sound
returns-in_default-clause-sound g c =
    (slot_new g.D.Derive.own_of g.D.Derive.needs_of g.D.Derive.fact_of c.args.slots.now c.push.new.self c.args.name.now c.args.bytes.now c.in_ok-slot.slot c.requires.sound c.in_default.ensures c.in_ok-slot.ensures c.in_ok-push.ensures.ok).sound

pub returns-in_default-clause-texts : goal.returns-in_default-clause-texts
returns-in_default-clause-texts g c =
    (slot_new g.D.Derive.own_of g.D.Derive.needs_of g.D.Derive.fact_of c.args.slots.now c.push.new.self c.args.name.now c.args.bytes.now c.in_ok-slot.slot c.requires.sound c.in_default.ensures c.in_ok-slot.ensures c.in_ok-push.ensures.ok).texts

pub returns-in_default-clause-carries : goal.returns-in_default-clause-carries
returns-in_default-clause-carries g c =
    (slot_new g.D.Derive.own_of g.D.Derive.needs_of g.D.Derive.fact_of c.args.slots.now c.push.new.self c.args.name.now c.args.bytes.now c.in_ok-slot.slot c.requires.sound c.in_default.ensures c.in_ok-slot.ensures c.in_ok-push.ensures.ok).carries

pub returns-clause-sound : goal.returns-clause-sound
returns-clause-sound g c =
    let p = c.in-Some.ensures in
    (slot_over g.D.Derive.own_of g.D.Derive.needs_of g.D.Derive.fact_of c.args.slots.now c.replace.new.slots c.in-Some.index c.args.name.now c.args.bytes.now c.in_ok-slot.slot c.requires.sound p c.in_ok-slot.ensures (c.replace.ensures.slots p.0 p.1)).sound

pub returns-clause-texts : goal.returns-clause-texts
returns-clause-texts g c =
    let p = c.in-Some.ensures in
    (slot_over g.D.Derive.own_of g.D.Derive.needs_of g.D.Derive.fact_of c.args.slots.now c.replace.new.slots c.in-Some.index c.args.name.now c.args.bytes.now c.in_ok-slot.slot c.requires.sound p c.in_ok-slot.ensures (c.replace.ensures.slots p.0 p.1)).texts

pub returns-clause-carries : goal.returns-clause-carries
returns-clause-carries g c =
    let p = c.in-Some.ensures in
    (slot_over g.D.Derive.own_of g.D.Derive.needs_of g.D.Derive.fact_of c.args.slots.now c.replace.new.slots c.in-Some.index c.args.name.now c.args.bytes.now c.in_ok-slot.slot c.requires.sound p c.in_ok-slot.ensures (c.replace.ensures.slots p.0 p.1)).carries
