use Rattle.std.proofs.Common.{take, ◌∙◌, length-take, arith}
use Rattle.step_bench.proofs.Walk.{stops, further}
use Rattle.step_bench.proofs.stepping.step_over.Goals as goal

pub loop-count-preserved : goal.loop-count-preserved
loop-count-preserved c =
    let inv = c.loop-count.invariant in
    let i = c.loop-count.count in
    let answer = c.in_ok-step.ensures.answer 0 (take i c.args.lexemes.now) inv.read in
    let on = further c.step.new.tree c.step.new.self c.args.lexemes.now i _ c.in_ok-step.step (c.in_ok-step.ensures.goal ∙ inv.goal) (omega (arith, c.loop-count-test.true)) c.in-Going.is inv.going answer in
    record {
      within = omega (arith, c.loop-count-test.true);
      goal = c.in_ok-step.ensures.goal ∙ inv.goal;
      ready = c.step.ensures.ready;
      read = on.0;
      going = on.1;
      few = omega (arith, inv.within, c.in_ok-step.ensures.few 0 (take i c.args.lexemes.now) inv.read, length-take i c.args.lexemes.now);
    }

pub returns-in-Done : goal.returns-in-Done
returns-in-Done c =
    let inv = c.loop-count.invariant in
    let i = c.loop-count.count in
    let answer = c.in_ok-step.ensures.answer 0 (take i c.args.lexemes.now) inv.read in
    record {
      stopped = stops c.step.new.tree c.step.new.self c.args.lexemes.now i _ c.in_ok-step.step (c.in_ok-step.ensures.goal ∙ inv.goal) (omega (arith, c.loop-count-test.true)) c.in-Done.is inv.going answer;
      within = omega (arith, c.loop-count-test.true);
      few = omega (arith, inv.within, c.in_ok-step.ensures.few 0 (take i c.args.lexemes.now) inv.read, length-take i c.args.lexemes.now);
    }
