use Rattle.std.proofs.Common.{arith, sym, ◌∙◌}
use Rattle.unit_steps.proofs.Stepping.{goes-moves, goes-whole, goes-on, not-some, ending-is}
use Rattle.unit_steps.proofs.endings.end_frames.Goals as goal

pub returns-in_default-clause-ends : goal.returns-in_default-clause-ends
returns-in_default-clause-ends c f fs i a = goes-moves (sym c.in_default.is ∙ c.form_ended.ensures) (c.ending.invariant.goes f fs i a)

pub end_frame-requires : goal.end_frame-requires
end_frame-requires c = (c.ending.invariant.goes c.requires.0 c.requires.1 c.requires.2 c.requires.3).is.parts.there

pub returns-in-Some-2-clause-ends : goal.returns-in-Some-2-clause-ends
returns-in-Some-2-clause-ends c f fs i a =
    let g = c.ending.invariant.goes f fs i a in
    goes-whole _ _ _ c.in-Some-2.part c.in-Some.form _ (ending-is _ c.in-Some.form _ c.form_ended.ensures c.in-Some.is) c.in-Some-2.is g (c.in_ok-part.ensures.ends g.frame g.frames g.is g.are)

pub ending-preserved : goal.ending-preserved
ending-preserved c = record {
  goes = λ f fs i a.
      let g = c.ending.invariant.goes f fs i a in
      goes-on _ _ _ c.in-Some.form _ (ending-is _ c.in-Some.form _ c.form_ended.ensures c.in-Some.is) (not-some _ c.in_default-2.not-Some) g (c.in_ok-part.ensures.ends g.frame g.frames g.is g.are);
  few = let k = rw c.in_default-2.is at c.in_ok-part.ensures.few in omega (arith, k, c.ending.invariant.few);
}
