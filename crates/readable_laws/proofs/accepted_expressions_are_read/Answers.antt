use Rattle.readable_laws.proofs.Accepting.{expression-reads}
use Rattle.readable_laws.proofs.accepted_expressions_are_read.Goals as goal

pub returns-clause-read : goal.returns-clause-read
returns-clause-read c = λ text known named paths found faces context order whole inside x a i o derives all is. (expression-reads text known named paths found faces context order whole inside x a i o derives all is).0

pub returns-clause-places : goal.returns-clause-places
returns-clause-places c = λ text known named paths found faces context order whole inside x a i o derives all is. (expression-reads text known named paths found faces context order whole inside x a i o derives all is).1
