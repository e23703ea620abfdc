use Rattle.unit_steps.proofs.Stepping.{part-moves}
use Rattle.unit_steps.proofs.moves.take_leaf.Goals as goal

pub returns-clause-moves : goal.returns-clause-moves
returns-clause-moves c d us b fs f u i = part-moves _ _ c.args.unfinished c.takes_leaf.new.self b _ fs d us u (c.in-Ok.ensures.takes f i)
