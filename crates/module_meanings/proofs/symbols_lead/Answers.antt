use Rattle.module_meanings.proofs.Symbols.{first-lead, unit-lead}
use Rattle.module_meanings.proofs.symbols_lead.Goals as goal

pub returns-clause-first : goal.returns-clause-first
returns-clause-first c flat text means implied files outsides words modules faces symbols names leads given made =
    first-lead flat text means implied files outsides words modules faces symbols names leads given made

pub returns-clause-units : goal.returns-clause-units
returns-clause-units c flat text means implied files outsides words state reader unit next asked all given made =
    unit-lead flat text means implied files outsides words state reader unit next asked all given made
