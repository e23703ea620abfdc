use Rattle.std.proofs.Common.{◌∷◌, refl}
use Rattle.unit_steps.proofs.moves.begin_expression.Goals as goal

pub returns-clause-moves : goal.returns-clause-moves
returns-clause-moves c nodes d us b fs f u i = record { begun = b; frames = f ∷ fs; depth = d; units = us; under = c.in-Ok.ensures.under nodes d us b fs f u i; same = refl }
