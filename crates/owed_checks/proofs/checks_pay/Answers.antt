use Rattle.owed_checks.proofs.Owing.{check-pays, stays-owed}
use Rattle.owed_checks.proofs.checks_pay.Goals as goal

pub returns-clause-stays : goal.returns-clause-stays
returns-clause-stays c = stays-owed

pub returns-clause-less : goal.returns-clause-less
returns-clause-less c before after texts owed name owes stay some was is = check-pays before after texts owed name owes stay some was is
