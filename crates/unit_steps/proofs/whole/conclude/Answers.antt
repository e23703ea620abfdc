use Rattle.unit_steps.proofs.Concluding.{concluded-constants, not-concluded}
use Rattle.unit_steps.proofs.whole.conclude.Goals as goal

pub returns-in-Ok-clause-moves : goal.returns-in-Ok-clause-moves
returns-in-Ok-clause-moves c nodes d us b x spelled part r i n p =
    concluded-constants nodes c.args.reached _ _ c.args.begun b x d us c.in-Constants.is r i (λ xs a. c.in-Ok.ensures nodes xs x spelled part a n p)

pub returns-in_default-clause-moves : goal.returns-in_default-clause-moves
returns-in_default-clause-moves c nodes d us b x spelled part r i n p = not-concluded nodes c.args.begun b x d us c.in_default.not-Constants i
