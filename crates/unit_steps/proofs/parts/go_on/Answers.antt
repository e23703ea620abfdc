use Rattle.std.proofs.lemmas.Result.{IfOk-weaker}
use Rattle.unit_steps.proofs.Stepping.{ended-whole, ended-moves, step-whole-is, step-moves-is, not-some}
use Rattle.unit_steps.proofs.parts.go_on.Goals as goal

pub finish-requires : goal.finish-requires
finish-requires c = (ended-whole _ _ c.args.frame _ c.in-Some.part _ _ c.args.lexeme c.in-Some.is c.requires.2).is.there

pub move_frame-requires : goal.move_frame-requires
move_frame-requires c =
    let w = ended-moves _ _ c.args.frame _ _ _ c.args.lexeme (not-some _ c.in_default.not-Some) c.requires.2 in
    (w.frame, w.is)

pub returns-in-Some-clause-moves : goal.returns-in-Some-clause-moves
returns-in-Some-clause-moves c =
    IfOk-weaker c.finish.result _ _
    (λ moved h d us b fs f r g e.
    let w = ended-whole _ _ c.args.frame _ c.in-Some.part f fs c.args.lexeme c.in-Some.is e in
    step-whole-is _ c.in-Some.part b f fs d us c.args.lexeme _ w (h d us b w.tree w.spelled r g w.is))
    c.finish.ensures.moves

pub returns-clause-moves : goal.returns-clause-moves
returns-clause-moves c =
    IfOk-weaker c.move_frame.result _ _
    (λ moved h d us b fs f r g e.
    let w = ended-moves _ _ c.args.frame _ f fs c.args.lexeme (not-some _ c.in_default.not-Some) e in
    step-moves-is _ _ _ c.args.frame c.frame_move-to.result b f fs d us c.args.lexeme _ c.frame_move-to.ensures w
    (h d us b w.frames w.frame (record { reached = r; begun = g; below = w.below }) w.is))
    c.move_frame.ensures.moves
