use Rattle.unit_steps.proofs.due.unit_due.Goals as goal

pub returns-clause-moves : goal.returns-clause-moves
returns-clause-moves c = rw (← c.unit_start.ensures) c.start.ensures.moves
