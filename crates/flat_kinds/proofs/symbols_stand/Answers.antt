use Rattle.flat_kinds.proofs.Symbols.{module-by_less, own-less, places-before, places-itself, symbols-at-less, symbols-themselves}
use Rattle.flat_kinds.proofs.symbols_stand.Goals as goal

pub returns-clause-less : goal.returns-clause-less
returns-clause-less c flat less more places inner outside says kept = module-by_less flat less more places inner outside says kept

pub returns-clause-themselves : goal.returns-clause-themselves
returns-clause-themselves c flat frame symbols each = symbols-themselves flat frame symbols each

pub returns-clause-places : goal.returns-clause-places
returns-clause-places c base before symbols each meaning = places-itself base before symbols meaning (each meaning)

pub returns-clause-same : goal.returns-clause-same
returns-clause-same c base symbols place distinct nothing = symbols-at-less base symbols place distinct nothing

pub returns-clause-own : goal.returns-clause-own
returns-clause-own c base symbols place distinct nothing = own-less base symbols place distinct nothing

pub returns-clause-before : goal.returns-clause-before
returns-clause-before c base symbols place before meaning = places-before base symbols place meaning (before meaning)
