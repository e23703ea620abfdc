use Rattle.std.proofs.lemmas.Bool.Decides.{nat_tests}
use Rattle.std.proofs.Common.{arith, refl}
use Rattle.unit_steps.proofs.Reaching.{ended-nested}
use Rattle.unit_steps.proofs.due.end_module.Goals as goal

pub returns-clause-moves : goal.returns-clause-moves
returns-clause-moves c nodes d us i =
    ended-nested nodes c.args.reached c.in-Ok.reached c.args.lexeme c.new.result d us (grind (arith, nat_tests, c.if-reached-lt2.false))
    (λ e j. c.in-Ok.ensures nodes e us _ (c.closes.ensures nodes e us j) (record { there = (tt, tt); are = refl })) c.new.ensures i
