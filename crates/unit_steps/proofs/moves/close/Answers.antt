use Rattle.std.proofs.lemmas.Result.{IfOk-weaker}
use Rattle.unit_steps.proofs.Stepping.{made-moves}
use Rattle.unit_steps.proofs.moves.close.Goals as goal

pub closed-requires : goal.closed-requires
closed-requires c = c.requires

pub returns-clause-moves : goal.returns-clause-moves
returns-clause-moves c =
    IfOk-weaker c.shut.result _ _
    (λ moved h d us b fs f u i. made-moves _ _ c.args.unfinished c.in-Ok.part b fs d us _ _ _ _ u (c.in-Ok.ensures.made f i) (λ v p. h _ d us b fs _ _ v p))
    c.shut.ensures.moves
