use Rattle.std.proofs.Common.{arith, true, false, ◌≡◌, sym, ◌∙◌}
use Rattle.std.proofs.lemmas.Bool.Decides.{nat_tests}
use Rattle.unit_frames.proofs.LastLexemes.{ends-here, ends-later}
use Rattle.unit_frames.proofs.ending.ends_once.Goals as goal

pub returns-then-is_last : goal.returns-then-is_last
returns-then-is_last c =
    ends-here _ c.loop-index.index _ (grind (arith, nat_tests, c.loop-index-test.true)) c.loop-index.invariant.same (c.is_last.ensures.0 c.if-is_last.true)

pub loop-index-preserved : goal.loop-index-preserved
loop-index-preserved c = record {
  within = grind (arith, nat_tests, c.loop-index-test.true);
  same = ends-later _ c.loop-index.index _ (grind (arith, nat_tests, c.loop-index-test.true)) c.loop-index.invariant.same (λ l. let e : true ≡ false = sym (c.is_last.ensures.1 l) ∙ c.if-is_last.false in cc);
}
