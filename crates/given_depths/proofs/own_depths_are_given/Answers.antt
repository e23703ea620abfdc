use Rattle.given_depths.proofs.Own.{file-kept, gives-own, symbols-kept}
use Rattle.given_depths.proofs.own_depths_are_given.Goals as goal

pub returns-clause-units : goal.returns-clause-units
returns-clause-units c = gives-own

pub returns-clause-files : goal.returns-clause-files
returns-clause-files c = file-kept

pub returns-clause-symbols : goal.returns-clause-symbols
returns-clause-symbols c = λ declares given files source units all names plain. symbols-kept given files source units declares all names plain
