use Rattle.std.proofs.Common.{refl}
use Rattle.std.proofs.lemmas.Result.{IfOk-weaker}
use Rattle.unit_grammar.specs.Units.{Variables, Line}
use Rattle.unit_steps.proofs.due.move_due.Goals as goal

pub returns-in-Begun-clause-moves : goal.returns-in-Begun-clause-moves
returns-in-Begun-clause-moves c = rw c.in-Begun.is c.begin_module.ensures.moves

pub returns-in-Listed-clause-moves : goal.returns-in-Listed-clause-moves
returns-in-Listed-clause-moves c =
    rw c.in-Listed.is
    (IfOk-weaker c.after_unit.result _ _ (λ moved h nodes d us i. h nodes d us (Variables c.args.names) i (record { there = (tt, tt); are = refl })) c.after_unit.ensures.moves)

pub returns-in-Lined-clause-moves : goal.returns-in-Lined-clause-moves
returns-in-Lined-clause-moves c =
    rw c.in-Lined.is
    (IfOk-weaker c.after_unit-in-Lined.result _ _ (λ moved h nodes d us i. h nodes d us (Line c.in-Lined.dashes) i (record { there = (tt, tt); are = refl })) c.after_unit-in-Lined.ensures.moves)

pub returns-in-Begins-clause-moves : goal.returns-in-Begins-clause-moves
returns-in-Begins-clause-moves c = rw c.in-Begins.is c.unit_due.ensures.moves
