use Rattle.std.proofs.Common.{[], ◌∷◌, refl}
use Rattle.expr_parse.proofs.begins.push.Goals as goal

pub returns : goal.returns
returns c nodes frames stands =
    c.in_ok-turn.ensures nodes [] (c.args.lexeme ∷ []) frames (c.opening-opening.ensures nodes frames (c.args.lexeme ∷ []) stands refl)
