use Rattle.std.proofs.Common.{◌<◌, ap, subst, arith, length}
use Rattle.expr_grammar.specs.Counting.{made_close}
use Rattle.expr_parse.specs.Ending.{closing}
use Rattle.expr_parse.proofs.Going.{at-top, can-take, open-beside}
use Rattle.expr_parse.proofs.Closing.{closes-next, closes-stuck, closes-last}
use Rattle.expr_parse.proofs.ending.close_all.Goals as goal

pub returns-in_default-finishes : goal.returns-in_default-finishes
returns-in_default-finishes c fs e b s p =
    let a = at-top closing made_close _ _ c.loop-stack.stack c.pop.new.self c.in-Some.frame c.loop-stack.part _ _ _ c.in-Some.ensures.top (c.loop-stack.invariant.goes fs e b s p) in
    closes-stuck _ (length c.loop-stack.stack.frames.items) a c.in-Some.ensures.fewer (subst (λ z. 1 < length z) c.frames.ensures c.loop-stack-test.true) c.shape.ensures c.in_default-finishes.ensures

pub close-requires-clause-opened : goal.close-requires-clause-opened
close-requires-clause-opened c =
    let r = c.requires in
    open-beside (can-take (at-top closing made_close _ _ c.loop-stack.stack c.pop.new.self c.in-Some.frame c.loop-stack.part _ _ _ c.in-Some.ensures.top (c.loop-stack.invariant.goes r.frames r.tree r.spelled r.stands r.is)))

pub close-requires-clause-part : goal.close-requires-clause-part
close-requires-clause-part c =
    let r = c.requires in
    let g = c.loop-stack.invariant.goes r.frames r.tree r.spelled r.stands r.is in
    (g.tree, g.spelled, g.is)

pub loop-stack-preserved : goal.loop-stack-preserved
loop-stack-preserved c = record {
  goes = λ fs e b s p.
      let a = at-top closing made_close _ _ c.loop-stack.stack c.pop.new.self c.in-Some.frame c.loop-stack.part _ _ _ c.in-Some.ensures.top (c.loop-stack.invariant.goes fs e b s p) in
      closes-next _ c.close.new.self _ c.in-Some-finishes.form _ (length c.loop-stack.stack.frames.items) a c.in-Some.ensures.fewer (subst (λ z. 1 < length z) c.frames.ensures c.loop-stack-test.true) c.shape.ensures c.in-Some-finishes.ensures
      (c.in_ok-part.ensures.made a.top.parts a.top.read a.below a.tree a.spelled a.beside.opens a.beside.is);
}

pub returns : goal.returns
returns c fs e b s p = closes-last _ _ c.loop-stack.stack _ fs e b (omega (arith, ap (λ z. length z) c.frames.ensures, ap (λ z. length z) c.frames-2.ensures, c.loop-stack-test.false, c.if-frames-lt1.false)) (c.loop-stack.invariant.goes fs e b s p)
