use Rattle.std.proofs.Common.{refl}
use Rattle.expr_grammar.specs.declared.wait.PartMove.TheVariants as PartMove
use Rattle.expr_parse.proofs.Going.{at-top, at-none, can-take, open-beside}
use Rattle.expr_parse.proofs.Following.{following, following-makes, follow-closes, follow-refuses, follow-moves}
use Rattle.expr_parse.proofs.parts.follow.Goals as goal

pub shape-requires : goal.shape-requires
shape-requires c =
    let r = c.requires in
    (c.loop-frame.invariant.goes r.frames r.tree r.spelled r.stands r.is).is.there

pub close-requires-clause-opened : goal.close-requires-clause-opened
close-requires-clause-opened c =
    let r = c.requires in
    open-beside (can-take (at-top (following c.args.lexeme) (following-makes c.args.lexeme) _ _ c.loop-frame.stack c.pop.new.self c.in-Some.frame c.loop-frame.part _ _ _ c.in-Some.ensures.top (c.loop-frame.invariant.goes r.frames r.tree r.spelled r.stands r.is)))

pub close-requires-clause-part : goal.close-requires-clause-part
close-requires-clause-part c =
    let r = c.requires in
    let g = c.loop-frame.invariant.goes r.frames r.tree r.spelled r.stands r.is in
    (g.tree, g.spelled, g.is)

pub returns : goal.returns
returns c fs e b s p =
    at-none (following c.args.lexeme) (following-makes c.args.lexeme) _ _ c.loop-frame.stack c.pop.new.self c.loop-frame.part fs e b (λ tree spelled. refl) c.in_default.ensures.top (c.loop-frame.invariant.goes fs e b s p)

pub loop-frame-preserved : goal.loop-frame-preserved
loop-frame-preserved c = record {
  goes = λ fs e b s p.
      let a = at-top (following c.args.lexeme) (following-makes c.args.lexeme) _ _ c.loop-frame.stack c.pop.new.self c.in-Some.frame c.loop-frame.part _ _ _ c.in-Some.ensures.top (c.loop-frame.invariant.goes fs e b s p) in
      follow-closes _ c.close.new.self _ c.in-Finish.form c.args.lexeme _ a c.shape.ensures c.in-Finish.ensures
      (c.in_ok-part-in-Finish.ensures.made a.top.parts a.top.read a.below a.tree a.spelled a.beside.opens a.beside.is);
}

pub returns-in-Refused : goal.returns-in-Refused
returns-in-Refused c fs e b s p =
    let a = at-top (following c.args.lexeme) (following-makes c.args.lexeme) _ _ c.loop-frame.stack c.pop.new.self c.in-Some.frame c.loop-frame.part _ _ _ c.in-Some.ensures.top (c.loop-frame.invariant.goes fs e b s p) in
    follow-refuses c.pop.new.self c.args.lexeme _ a c.shape.ensures c.in-Refused.ensures

pub done-requires : goal.done-requires
done-requires c =
    let r = c.requires in
    can-take (at-top (following c.args.lexeme) (following-makes c.args.lexeme) _ _ c.loop-frame.stack c.pop.new.self c.in-Some.frame c.loop-frame.part _ _ _ c.in-Some.ensures.top (c.loop-frame.invariant.goes r.frames r.tree r.spelled r.stands r.is))

pub returns-in-Done : goal.returns-in-Done
returns-in-Done c fs e b s p =
    let a = at-top (following c.args.lexeme) (following-makes c.args.lexeme) _ _ c.loop-frame.stack c.pop.new.self c.in-Some.frame c.loop-frame.part _ _ _ c.in-Some.ensures.top (c.loop-frame.invariant.goes fs e b s p) in
    follow-moves _ c.done.new.stack _ (PartMove.Done c.in-Done.form c.in-Done.conversion) c.args.lexeme _ a c.shape.ensures c.in-Done.ensures (c.in_ok-turn-in-Done.ensures a.top a.below a.tree a.spelled a.beside)

pub goes-requires : goal.goes-requires
goes-requires c =
    let r = c.requires in
    can-take (at-top (following c.args.lexeme) (following-makes c.args.lexeme) _ _ c.loop-frame.stack c.pop.new.self c.in-Some.frame c.loop-frame.part _ _ _ c.in-Some.ensures.top (c.loop-frame.invariant.goes r.frames r.tree r.spelled r.stands r.is))

pub returns-in-Goes : goal.returns-in-Goes
returns-in-Goes c fs e b s p =
    let a = at-top (following c.args.lexeme) (following-makes c.args.lexeme) _ _ c.loop-frame.stack c.pop.new.self c.in-Some.frame c.loop-frame.part _ _ _ c.in-Some.ensures.top (c.loop-frame.invariant.goes fs e b s p) in
    follow-moves _ c.goes.new.stack _ (PartMove.Goes c.in-Goes.wait c.in-Goes.conversion) c.args.lexeme _ a c.shape.ensures c.in-Goes.ensures (c.in_ok-turn-in-Goes.ensures a.top a.below a.tree a.spelled a.beside)

pub returns-in-Hand : goal.returns-in-Hand
returns-in-Hand c fs e b s p =
    let a = at-top (following c.args.lexeme) (following-makes c.args.lexeme) _ _ c.loop-frame.stack c.pop.new.self c.in-Some.frame c.loop-frame.part _ _ _ c.in-Some.ensures.top (c.loop-frame.invariant.goes fs e b s p) in
    follow-moves _ c.hand.new.stack _ (PartMove.Hand c.in-Hand.kind) c.args.lexeme _ a c.shape.ensures c.in-Hand.ensures (c.in_ok-turn-in-Hand.ensures _ a.top a.below a.tree a.spelled a.beside)

pub bind-requires : goal.bind-requires
bind-requires c =
    let r = c.requires in
    can-take (at-top (following c.args.lexeme) (following-makes c.args.lexeme) _ _ c.loop-frame.stack c.pop.new.self c.in-Some.frame c.loop-frame.part _ _ _ c.in-Some.ensures.top (c.loop-frame.invariant.goes r.frames r.tree r.spelled r.stands r.is))

pub returns-in-Convert : goal.returns-in-Convert
returns-in-Convert c fs e b s p =
    let a = at-top (following c.args.lexeme) (following-makes c.args.lexeme) _ _ c.loop-frame.stack c.pop.new.self c.in-Some.frame c.loop-frame.part _ _ _ c.in-Some.ensures.top (c.loop-frame.invariant.goes fs e b s p) in
    follow-moves _ c.bind.new.stack _ (PartMove.Convert c.in-Convert.actions) c.args.lexeme _ a c.shape.ensures c.in-Convert.ensures (c.in_ok-turn-in-Convert.ensures a.top a.below a.tree a.spelled a.beside)
