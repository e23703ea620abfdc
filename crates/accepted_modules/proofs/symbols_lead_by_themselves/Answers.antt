use Rattle.accepted_modules.proofs.Leading.{first-leads, none-brought, unit-leads}
use Rattle.accepted_modules.proofs.symbols_lead_by_themselves.Goals as goal

pub returns-clause-begins : goal.returns-clause-begins
returns-clause-begins c = first-leads

pub returns-clause-kept : goal.returns-clause-kept
returns-clause-kept c = unit-leads

pub returns-clause-unbrought : goal.returns-clause-unbrought
returns-clause-unbrought c = none-brought
