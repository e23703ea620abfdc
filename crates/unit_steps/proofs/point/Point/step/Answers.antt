use Rattle.std.proofs.Common.{subst}
use Rattle.std.proofs.lemmas.Result.{IfOk-weaker}
use Rattle.unit_machine.specs.Machine as Machine
use Rattle.unit_steps.specs.PointMeaning.{IsMoved}
use Rattle.unit_steps.proofs.Stepping.{still, as-stands, as-declared, as-part, focus-moves}
use Rattle.unit_steps.proofs.point.Point.step.Goals as goal

pub part_step-requires : goal.part_step-requires
part_step-requires c =
    let st = c.requires.0 in
    let k = as-part _ _ c.in-Part.unfinished c.in-Part.frame st c.in-Part.is c.requires.1 in
    (k.0, k.2, st.depth, st.units, k.1, k.4, k.5)

pub returns-in-Part-clause-moves : goal.returns-in-Part-clause-moves
returns-in-Part-clause-moves c =
    IfOk-weaker c.part_step.result _ _
    (λ moved h st i.
    let k = as-part _ _ c.in-Part.unfinished c.in-Part.frame st c.in-Part.is i in
    focus-moves _ _ _ st _ c.args.lexeme k.3 (h st.depth st.units k.0 k.2 k.1 k.4 k.5))
    c.part_step.ensures.moves

pub returns-in-Stands-clause-moves : goal.returns-in-Stands-clause-moves
returns-in-Stands-clause-moves c =
    IfOk-weaker c.move_due.result _ _
    (λ moved h st i.
    let k = as-stands _ _ c.in-Stands.reached c.in-Stands.due c.in-Stands.names st c.in-Stands.is i in
    focus-moves _ _ _ st _ c.args.lexeme k.0
    (still (subst (λ z. IsMoved c.args.tree.now moved (Machine.due_moved z c.in-Stands.names st.depth st.units c.args.lexeme)) c.due_move.ensures (h _ st.depth st.units k.1))))
    c.move_due.ensures.moves

pub returns-in-Declared-clause-moves : goal.returns-in-Declared-clause-moves
returns-in-Declared-clause-moves c =
    IfOk-weaker c.after_declared.result _ _
    (λ moved h st i.
    let k = as-declared _ _ c.in-Declared.reached c.in-Declared.declarations st c.in-Declared.is i in
    focus-moves _ _ _ st _ c.args.lexeme k.1 (still (h _ st.depth st.units k.0 k.3 k.2)))
    c.after_declared.ensures.moves
