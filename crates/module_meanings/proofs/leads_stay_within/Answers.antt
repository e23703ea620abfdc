use Rattle.module_meanings.specs.Premises.{IsFileAt}
use Rattle.module_meanings.proofs.Within.{exported-within, extended-within, first-within, unit-within}
use Rattle.module_meanings.proofs.leads_stay_within.Goals as goal

pub returns-clause-first : goal.returns-clause-first
returns-clause-first c flat symbols = first-within flat symbols

pub returns-clause-extended : goal.returns-clause-extended
returns-clause-extended c flat text means implied files outsides words modules faces setting leads names next files_within nested within made =
    extended-within flat text means implied files outsides words files_within modules faces setting leads names next nested within made

pub returns-clause-units : goal.returns-clause-units
returns-clause-units c flat text means implied files outsides words state reader seen unit next asked files_within within given made =
    unit-within flat text means implied files outsides words files_within (IsFileAt flat text means implied files outsides words) state reader seen unit next asked within given made

pub returns-clause-exported : goal.returns-clause-exported
returns-clause-exported c flat leads entries name names within = exported-within flat leads entries name names within
