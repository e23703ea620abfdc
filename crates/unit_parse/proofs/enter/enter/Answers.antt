use Rattle.std.proofs.Common.{subst}
use Rattle.std.specs.Prelude.{IfOk}
use Rattle.std.proofs.lemmas.Result.{IfOk-weaker}
use Rattle.unit_steps.specs.PointMeaning as Steps
use Rattle.unit_parse.proofs.enter.enter.Goals as goal

pub returns-in-Ok-Some-clause-moves : goal.returns-in-Ok-Some-clause-moves
returns-in-Ok-Some-clause-moves c =
    IfOk-weaker c.enter_next.result _ _
    (λ moved h nodes st i.
    h nodes st (subst (λ z. Steps.Moves nodes c.args.tree.now z st) c.in-Ok-Some.field-0-is (subst (λ z. IfOk z (λ led. Steps.Moves nodes c.args.tree.now led st)) c.in-Ok-Some.is i)))
    c.enter_next.ensures.moves
