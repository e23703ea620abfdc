use Rattle.module_meanings.proofs.Leaves.{extended-leave, first-leave, unit-leave}
use Rattle.module_meanings.proofs.leaves_lead.Goals as goal

pub returns-clause-first : goal.returns-clause-first
returns-clause-first c symbols = first-leave symbols

pub returns-clause-extended : goal.returns-clause-extended
returns-clause-extended c flat text means implied files outsides words modules faces setting leads names next leaves made =
    extended-leave flat text means implied files outsides words modules faces setting leads names next leaves made

pub returns-clause-units : goal.returns-clause-units
returns-clause-units c flat text means implied files outsides words state reader unit next asked here round made =
    unit-leave flat text means implied files outsides words state reader unit next asked (here, round) made
