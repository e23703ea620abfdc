use Rattle.std.proofs.Common.{[], ◌∷◌, refl}
use Rattle.expr_parse.proofs.begins.push_part.Goals as goal

pub returns : goal.returns
returns c nodes frames tree spelled stands is =
    c.in_ok-turn.ensures nodes (tree ∷ []) spelled frames
    (c.in_ok-opening.ensures.more nodes [] [] frames tree spelled (c.opening-opening.ensures nodes frames [] stands refl) is)
