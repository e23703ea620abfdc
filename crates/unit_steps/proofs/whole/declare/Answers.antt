use Rattle.std.proofs.lemmas.Result.{IfOk-weaker}
use Rattle.unit_steps.proofs.whole.declare.Goals as goal

pub returns-clause-moves : goal.returns-clause-moves
returns-clause-moves c =
    IfOk-weaker c.after_declared.result _ _
    (λ moved h nodes d us xs x spelled part r a n p. h nodes d us _ r (c.in-Ok.ensures nodes xs x spelled part a n p))
    c.after_declared.ensures.moves
