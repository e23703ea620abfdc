use Rattle.std.proofs.Common.{[], Some, refl, subst, sym}
use Rattle.expr_parse.specs.declared.turn.Turn.TheVariants as Turn
use Rattle.expr_parse.specs.TurnMeaning.{IsTurn}
use Rattle.expr_parse.specs.MachineMeaning.{start_of}
use Rattle.expr_parse.proofs.machine.open.Goals as goal

pub returns-in_ok-put-in-Expression : goal.returns-in_ok-put-in-Expression
returns-in_ok-put-in-Expression c nodes stands =
    subst (λ g. IsTurn nodes c.put.new.self Turn.Due (Some (start_of g))) (sym c.in-Expression.is)
    (c.in_ok-put-in-Expression.ensures nodes [] [] [] (c.opening-opening.ensures nodes [] [] stands refl))

pub returns-in_ok-turn-in-Bounds : goal.returns-in_ok-turn-in-Bounds
returns-in_ok-turn-in-Bounds c nodes stands =
    subst (λ g. IsTurn nodes c.goes_on.new.stack c.in_ok-turn-in-Bounds.turn (Some (start_of g))) (sym c.in-Bounds.is)
    (c.in_ok-turn-in-Bounds.ensures nodes [] [] [] (c.opening-opening.ensures nodes [] [] stands refl))
