use Rattle.level_spans.proofs.Standing.{no-fault, no-fault-among}
use Rattle.level_spans.proofs.uses_are_no_faults.Goals as goal

pub returns-clause-alone : goal.returns-clause-alone
returns-clause-alone c = no-fault

pub returns-clause-among : goal.returns-clause-among
returns-clause-among c = no-fault-among
