use Rattle.unit_parse.proofs.state.State.opening.Goals as goal

pub returns-clause-stands : goal.returns-clause-stands
returns-clause-stands c nodes = c.opening.ensures.stands nodes
