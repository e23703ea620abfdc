use Rattle.std.proofs.Common.{refl, subst, sym}
use Rattle.std.proofs.lemmas.Result.{IfOk-weaker}
use Rattle.unit_frames.specs.FrameMeaning.{IsBegun, IsReached}
use Rattle.unit_steps.proofs.whole.finish.Goals as goal

pub returns-clause-moves : goal.returns-clause-moves
returns-clause-moves c =
    IfOk-weaker c.finished.result _ _
    (λ moved h d us b x spelled r g p.
    h d us b x spelled c.args.part
    (subst (λ whole. IsReached c.args.tree.now whole.0 d us) (sym c.into_begun-reached.ensures) r)
    (subst (λ whole. IsBegun c.args.tree.now whole.1 b) (sym c.into_begun-reached.ensures) g) refl p)
    c.finished.ensures.moves
