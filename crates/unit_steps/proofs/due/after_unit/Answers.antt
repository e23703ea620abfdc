use Rattle.std.proofs.Common.{[], ◌∷◌, ◌++◌}
use Rattle.std.proofs.lemmas.Result.{IfOk-weaker}
use Rattle.unit_steps.proofs.due.after_unit.Goals as goal

pub returns-clause-moves : goal.returns-clause-moves
returns-clause-moves c = IfOk-weaker c.unit_due.result _ _ (λ moved h nodes d us last i a. h nodes d (us ++ last ∷ []) (c.in-Ok.ensures nodes d us last i a)) c.unit_due.ensures.moves
