use Rattle.std.proofs.lemmas.Result.{IfOk-weaker}
use Rattle.unit_parse.proofs.Stepping.{as-point, as-expression, as-bounds, focus-moves}
use Rattle.unit_parse.proofs.state.State.step.Goals as goal

pub step-requires : goal.step-requires
step-requires c = (c.requires.0, as-point _ _ c.in-At.point c.requires.0 c.in-At.is c.requires.1)

pub expression_step-requires : goal.expression_step-requires
expression_step-requires c =
    let st = c.requires.0 in
    let k = as-expression _ _ c.in-Expression.unfinished c.in-Expression.reader st c.in-Expression.is c.requires.1 in
    (k.0, k.1, st.depth, st.units, k.2, k.3, k.5, k.6)

pub bounds_step-requires : goal.bounds_step-requires
bounds_step-requires c =
    let st = c.requires.0 in
    let k = as-bounds _ _ c.in-Bounds.unfinished c.in-Bounds.frame c.in-Bounds.reader st c.in-Bounds.is c.requires.1 in
    (k.0, st.depth, st.units, k.1, k.2, k.3, k.5, k.6, k.7)

pub returns-in-At-clause-moves : goal.returns-in-At-clause-moves
returns-in-At-clause-moves c =
    IfOk-weaker c.enter.result _ _
    (λ moved m st i. m _ _ (IfOk-weaker c.step.result _ _ (λ next n. n st (as-point _ _ c.in-At.point st c.in-At.is i)) c.step.ensures.moves))
    c.enter.ensures.moves

pub returns-in-Expression-clause-moves : goal.returns-in-Expression-clause-moves
returns-in-Expression-clause-moves c =
    IfOk-weaker c.expression_step.result _ _
    (λ moved h st i.
    let k = as-expression _ _ c.in-Expression.unfinished c.in-Expression.reader st c.in-Expression.is i in
    focus-moves _ _ _ st _ c.args.lexeme k.4 (h st.depth st.units k.0 k.1 k.2 k.3 k.5 k.6))
    c.expression_step.ensures.moves

pub returns-in-Bounds-clause-moves : goal.returns-in-Bounds-clause-moves
returns-in-Bounds-clause-moves c =
    IfOk-weaker c.bounds_step.result _ _
    (λ moved h st i.
    let k = as-bounds _ _ c.in-Bounds.unfinished c.in-Bounds.frame c.in-Bounds.reader st c.in-Bounds.is i in
    focus-moves _ _ _ st _ c.args.lexeme k.4 (h st.depth st.units k.0 k.1 k.2 k.3 k.5 k.6 k.7))
    c.bounds_step.ensures.moves
