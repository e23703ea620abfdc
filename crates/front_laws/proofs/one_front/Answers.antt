use Rattle.front_laws.proofs.OneFront.{some-front, same-front}
use Rattle.front_laws.proofs.one_front.Goals as goal

pub returns-clause-some : goal.returns-clause-some
returns-clause-some c = λ name bytes. some-front c.derivable_or_bad.ensures c.reads_longest.ensures name bytes

pub returns-clause-same : goal.returns-clause-same
returns-clause-same c = λ name bytes front other. same-front c.one_module.ensures c.reads_longest.ensures name bytes
