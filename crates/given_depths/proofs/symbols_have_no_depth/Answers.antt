use Rattle.given_depths.proofs.Plain.{own-plain, plain-all, plain-first}
use Rattle.given_depths.proofs.symbols_have_no_depth.Goals as goal

pub returns-clause-begins : goal.returns-clause-begins
returns-clause-begins c = plain-first

pub returns-clause-units : goal.returns-clause-units
returns-clause-units c = λ declares text files words state units all names keeps plain. plain-all declares text files words all state units names keeps plain

pub returns-clause-own : goal.returns-clause-own
returns-clause-own c = own-plain
