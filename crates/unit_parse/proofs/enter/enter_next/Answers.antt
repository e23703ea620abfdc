use Rattle.std.proofs.lemmas.Result.{IfOk-weaker}
use Rattle.unit_parse.proofs.Stepping.{leads-to, enters, enters-begun, enters-point}
use Rattle.unit_parse.proofs.enter.enter_next.Goals as goal

pub returns-in-At-clause-moves : goal.returns-in-At-clause-moves
returns-in-At-clause-moves c nodes st m = enters _ _ _ st m (enters-point _ c.in-At.point st (leads-to _ _ _ st c.in-At.is m.is))

pub returns-in-Awaits-clause-moves : goal.returns-in-Awaits-clause-moves
returns-in-Awaits-clause-moves c nodes st m = enters _ _ _ st m (c.await_expression.ensures.moves _ st (leads-to _ _ _ st c.in-Awaits.is m.is))

pub returns-in-Begins-clause-moves : goal.returns-in-Begins-clause-moves
returns-in-Begins-clause-moves c =
    IfOk-weaker c.begin_expression.result _ _
    (λ moved h nodes st m. enters-begun _ _ _ _ _ st m (h st (leads-to _ _ _ st c.in-Begins.is m.is)))
    c.begin_expression.ensures.moves

pub returns-in-Bounds-clause-moves : goal.returns-in-Bounds-clause-moves
returns-in-Bounds-clause-moves c nodes st m = enters _ _ _ st m (c.await_bounds.ensures.moves _ st (leads-to _ _ _ st c.in-Bounds.is m.is))
