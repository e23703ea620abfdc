use Rattle.std.proofs.Common.{refl, arith}
use Rattle.expr_parse.proofs.Going.{at-top, at-none, can-take, open-beside}
use Rattle.expr_parse.proofs.Leaving.{leaving, leaving-makes, leave-next, leave-stuck, leave-goes, leave-within}
use Rattle.expr_parse.proofs.parts.leave.Goals as goal

pub close-requires-clause-opened : goal.close-requires-clause-opened
close-requires-clause-opened c =
    let r = c.requires in
    open-beside (can-take (at-top (leaving c.args.lexeme) (leaving-makes c.args.lexeme) _ _ c.loop-frame.stack c.pop.new.self c.in-Some.frame c.loop-frame.part _ _ _ c.in-Some.ensures.top (c.loop-frame.invariant.goes r.frames r.tree r.spelled r.stands r.is)))

pub close-requires-clause-part : goal.close-requires-clause-part
close-requires-clause-part c =
    let r = c.requires in
    let g = c.loop-frame.invariant.goes r.frames r.tree r.spelled r.stands r.is in
    (g.tree, g.spelled, g.is)

pub returns : goal.returns
returns c fs e b s p =
    at-none (leaving c.args.lexeme) (leaving-makes c.args.lexeme) _ _ c.loop-frame.stack c.pop.new.self c.loop-frame.part fs e b (λ tree spelled. refl) c.in_default.ensures.top (c.loop-frame.invariant.goes fs e b s p)

pub shape-shape-requires : goal.shape-shape-requires
shape-shape-requires c =
    let r = c.requires in
    (c.loop-frame.invariant.goes r.frames r.tree r.spelled r.stands r.is).is.there

pub returns-in-Some-next_item : goal.returns-in-Some-next_item
returns-in-Some-next_item c fs e b s p =
    let a = at-top (leaving c.args.lexeme) (leaving-makes c.args.lexeme) _ _ c.loop-frame.stack c.pop.new.self c.in-Some.frame c.loop-frame.part _ _ _ c.in-Some.ensures.top (c.loop-frame.invariant.goes fs e b s p) in
    leave-next c.take.new.stack _ c.args.lexeme c.in-Some-next_item.first _ a c.shape-shape.ensures c.in-Some-next_item.ensures (c.in_ok-turn.ensures _ a.top a.below a.tree a.spelled a.beside)

pub returns-in_default-finishes : goal.returns-in_default-finishes
returns-in_default-finishes c fs e b s p =
    let a = at-top (leaving c.args.lexeme) (leaving-makes c.args.lexeme) _ _ c.loop-frame.stack c.pop.new.self c.in-Some.frame c.loop-frame.part _ _ _ c.in-Some.ensures.top (c.loop-frame.invariant.goes fs e b s p) in
    leave-stuck c.pop.new.self c.args.lexeme _ a c.shape-shape.ensures c.in_default-next_item.ensures c.in_default-finishes.ensures

pub within-requires : goal.within-requires
within-requires c =
    let r = c.requires in
    let a = at-top (leaving c.args.lexeme) (leaving-makes c.args.lexeme) _ _ c.loop-frame.stack c.pop.new.self c.in-Some.frame c.loop-frame.part _ _ _ c.in-Some.ensures.top (c.loop-frame.invariant.goes r.frames r.tree r.spelled r.stands r.is) in
    let m = (c.in_ok-part.ensures.made a.top.parts a.top.read a.below a.tree a.spelled a.beside.opens a.beside.is) in
    record { frames = a.below; tree = _; spelled = _; stands = m.stands; is = m.is }

pub returns-then-lexeme-inner : goal.returns-then-lexeme-inner
returns-then-lexeme-inner c fs e b s p =
    let a = at-top (leaving c.args.lexeme) (leaving-makes c.args.lexeme) _ _ c.loop-frame.stack c.pop.new.self c.in-Some.frame c.loop-frame.part _ _ _ c.in-Some.ensures.top (c.loop-frame.invariant.goes fs e b s p) in
    let m = (c.in_ok-part.ensures.made a.top.parts a.top.read a.below a.tree a.spelled a.beside.opens a.beside.is) in
    let i = c.inner.ensures c.close.new.tree _ a.below m.stands in
    leave-within c.close.new.tree _ c.close.new.self c.within.new.stack _ _ c.in-Some-finishes.form c.args.lexeme _ a c.shape-shape.ensures c.in_default-next_item.ensures c.in-Some-finishes.ensures m
    (omega (arith, i, c.if-lexeme-inner.true)) (c.in_ok-turn-2.ensures a.below _ _ m.stands m.is)

pub loop-frame-preserved : goal.loop-frame-preserved
loop-frame-preserved c = record {
  goes = λ fs e b s p.
      let a = at-top (leaving c.args.lexeme) (leaving-makes c.args.lexeme) _ _ c.loop-frame.stack c.pop.new.self c.in-Some.frame c.loop-frame.part _ _ _ c.in-Some.ensures.top (c.loop-frame.invariant.goes fs e b s p) in
      let m = (c.in_ok-part.ensures.made a.top.parts a.top.read a.below a.tree a.spelled a.beside.opens a.beside.is) in
      let i = c.inner.ensures c.close.new.tree _ a.below m.stands in
      leave-goes c.close.new.tree c.close.new.self _ c.in-Some-finishes.form c.args.lexeme _ a c.shape-shape.ensures c.in_default-next_item.ensures c.in-Some-finishes.ensures m (omega (arith, i, c.if-lexeme-inner.false));
}
