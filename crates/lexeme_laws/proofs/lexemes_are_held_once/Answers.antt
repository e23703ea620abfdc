use Rattle.lexeme_laws.proofs.Fronts.{declared-few, held-few}
use Rattle.lexeme_laws.proofs.lexemes_are_held_once.Goals as goal

pub returns-clause-held : goal.returns-clause-held
returns-clause-held c = held-few

pub returns-clause-declared : goal.returns-clause-declared
returns-clause-declared c = declared-few
