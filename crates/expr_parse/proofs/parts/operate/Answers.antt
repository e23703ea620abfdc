use Rattle.std.proofs.Common.{refl}
use Rattle.expr_parse.proofs.Going.{at-top, at-none, can-take, open-beside}
use Rattle.expr_parse.proofs.Operating.{operating, operating-makes, operate-closes, operate-open, operate-clashes, operate-factor, operate-waits}
use Rattle.expr_parse.proofs.parts.operate.Goals as goal

pub take_factor-requires : goal.take_factor-requires
take_factor-requires c =
    let r = c.requires in
    can-take (at-top (operating c.args.lexeme) (operating-makes c.args.lexeme) _ _ c.loop-frame.stack c.pop.new.self c.in-Some.frame c.loop-frame.part _ _ _ c.in-Some.ensures.top (c.loop-frame.invariant.goes r.frames r.tree r.spelled r.stands r.is))

pub returns-then-takes : goal.returns-then-takes
returns-then-takes c fs e b s p =
    let a = at-top (operating c.args.lexeme) (operating-makes c.args.lexeme) _ _ c.loop-frame.stack c.pop.new.self c.in-Some.frame c.loop-frame.part _ _ _ c.in-Some.ensures.top (c.loop-frame.invariant.goes fs e b s p) in
    operate-factor _ c.take_factor.new.stack _ c.args.lexeme c.role-role.result _ a c.role-role.ensures c.takes.ensures c.if-takes.true (c.in_ok-turn.ensures a.top a.below a.tree a.spelled a.beside)

pub shape-requires : goal.shape-requires
shape-requires c =
    let r = c.requires in
    (c.loop-frame.invariant.goes r.frames r.tree r.spelled r.stands r.is).is.there

pub returns-in_default-finishes : goal.returns-in_default-finishes
returns-in_default-finishes c fs e b s p =
    let a = at-top (operating c.args.lexeme) (operating-makes c.args.lexeme) _ _ c.loop-frame.stack c.pop.new.self c.in-Some.frame c.loop-frame.part _ _ _ c.in-Some.ensures.top (c.loop-frame.invariant.goes fs e b s p) in
    operate-open c.pop.new.self c.args.lexeme c.role-role.result _ _ a c.role-role.ensures c.takes.ensures c.if-takes.false c.in-Ends.ensures c.shape.ensures c.in_default-finishes.ensures

pub close-requires-clause-opened : goal.close-requires-clause-opened
close-requires-clause-opened c =
    let r = c.requires in
    open-beside (can-take (at-top (operating c.args.lexeme) (operating-makes c.args.lexeme) _ _ c.loop-frame.stack c.pop.new.self c.in-Some.frame c.loop-frame.part _ _ _ c.in-Some.ensures.top (c.loop-frame.invariant.goes r.frames r.tree r.spelled r.stands r.is)))

pub close-requires-clause-part : goal.close-requires-clause-part
close-requires-clause-part c =
    let r = c.requires in
    let g = c.loop-frame.invariant.goes r.frames r.tree r.spelled r.stands r.is in
    (g.tree, g.spelled, g.is)

pub loop-frame-preserved : goal.loop-frame-preserved
loop-frame-preserved c = record {
  goes = λ fs e b s p.
      let a = at-top (operating c.args.lexeme) (operating-makes c.args.lexeme) _ _ c.loop-frame.stack c.pop.new.self c.in-Some.frame c.loop-frame.part _ _ _ c.in-Some.ensures.top (c.loop-frame.invariant.goes fs e b s p) in
      operate-closes _ c.close.new.self _ c.in-Some-finishes.form c.args.lexeme c.role-role.result _ _ a c.role-role.ensures c.takes.ensures c.if-takes.false c.in-Ends.ensures c.shape.ensures c.in-Some-finishes.ensures
      (c.in_ok-part-in-Ends.ensures.made a.top.parts a.top.read a.below a.tree a.spelled a.beside.opens a.beside.is);
}

pub wait_on-requires : goal.wait_on-requires
wait_on-requires c =
    let r = c.requires in
    can-take (at-top (operating c.args.lexeme) (operating-makes c.args.lexeme) _ _ c.loop-frame.stack c.pop.new.self c.in-Some.frame c.loop-frame.part _ _ _ c.in-Some.ensures.top (c.loop-frame.invariant.goes r.frames r.tree r.spelled r.stands r.is))

pub returns-in-Waits : goal.returns-in-Waits
returns-in-Waits c fs e b s p =
    let a = at-top (operating c.args.lexeme) (operating-makes c.args.lexeme) _ _ c.loop-frame.stack c.pop.new.self c.in-Some.frame c.loop-frame.part _ _ _ c.in-Some.ensures.top (c.loop-frame.invariant.goes fs e b s p) in
    operate-waits _ c.wait_on.new.stack _ c.args.lexeme c.role-role.result _ a c.role-role.ensures c.takes.ensures c.if-takes.false c.in-Waits.ensures (c.in_ok-turn-in-Waits.ensures a.top a.below a.tree a.spelled a.beside)

pub returns-in-Clashes : goal.returns-in-Clashes
returns-in-Clashes c fs e b s p =
    let a = at-top (operating c.args.lexeme) (operating-makes c.args.lexeme) _ _ c.loop-frame.stack c.pop.new.self c.in-Some.frame c.loop-frame.part _ _ _ c.in-Some.ensures.top (c.loop-frame.invariant.goes fs e b s p) in
    operate-clashes c.pop.new.self c.args.lexeme c.role-role.result _ a c.role-role.ensures c.takes.ensures c.if-takes.false c.in-Clashes.ensures

pub returns : goal.returns
returns c fs e b s p =
    at-none (operating c.args.lexeme) (operating-makes c.args.lexeme) _ _ c.loop-frame.stack c.pop.new.self c.loop-frame.part fs e b (λ tree spelled. refl) c.in_default.ensures.top (c.loop-frame.invariant.goes fs e b s p)
