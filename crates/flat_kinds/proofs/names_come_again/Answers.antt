use Rattle.flat_kinds.proofs.Yields.{again-stays, begins-yielded, begun-stays, file-yields, first-yielded, left-yielded, modules-yield, nested-yields}
use Rattle.flat_kinds.proofs.names_come_again.Goals as goal

pub returns-clause-extended : goal.returns-clause-extended
returns-clause-extended c yields files source units meaning each = first-yielded yields files source units meaning each

pub returns-clause-left : goal.returns-clause-left
returns-clause-left c yields text files words state unit meaning leaves has = left-yielded yields text files words state unit meaning leaves has

pub returns-clause-nested : goal.returns-clause-nested
returns-clause-nested c yields text files words state dashes name extends meaning each all has = begins-yielded yields text files words each state dashes name extends meaning all has

pub returns-clause-ended : goal.returns-clause-ended
returns-clause-ended c yields state outer round once has = nested-yields yields state outer round once has

pub returns-clause-exported : goal.returns-clause-exported
returns-clause-exported c yields files source units once has = file-yields yields files source units once has

pub returns-clause-modules : goal.returns-clause-modules
returns-clause-modules c yields text files words state unit all ends = modules-yield yields text files words state unit all ends

pub returns-clause-stays : goal.returns-clause-stays
returns-clause-stays c yields text files words flat symbols layout state unit keeps each = again-stays yields text files words flat symbols layout state unit keeps each

pub returns-clause-begins : goal.returns-clause-begins
returns-clause-begins c yields text files words flat symbols layout state dashes name extends files_yield all keeps each =
    begun-stays yields text files words flat symbols layout state dashes name extends files_yield all keeps each
