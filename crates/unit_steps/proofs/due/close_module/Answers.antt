use Rattle.std.proofs.lemmas.Bool.Decides.{nat_tests}
use Rattle.std.proofs.Common.{arith}
use Rattle.unit_steps.proofs.Reaching.{closed-outermost}
use Rattle.unit_steps.proofs.due.close_module.Goals as goal

pub returns-clause-moves : goal.returns-clause-moves
returns-clause-moves c nodes d us i = closed-outermost nodes c.args.reached c.closes.result c.new.result d us (grind (arith, nat_tests, c.if-reached-ne1.false)) c.closes.ensures c.new.ensures i
