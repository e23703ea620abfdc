use Rattle.lexeme_laws.proofs.Fronts.{declared-apart, front-apart}
use Rattle.lexeme_laws.proofs.names_begin_apart.Goals as goal

pub returns-clause-held : goal.returns-clause-held
returns-clause-held c = front-apart

pub returns-clause-declared : goal.returns-clause-declared
returns-clause-declared c = declared-apart
