use Rattle.unit_steps.proofs.moves.begin_part.Goals as goal

pub returns-clause-moves : goal.returns-clause-moves
returns-clause-moves c nodes d us b fs f read u i p = (c.in-Ok.ensures.under nodes d us b fs f u i, c.new-frame.ensures nodes read p)
