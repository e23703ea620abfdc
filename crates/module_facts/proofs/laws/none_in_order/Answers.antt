use Rattle.module_model.proofs.Ordering.{none-found, none-at-all}
use Rattle.module_facts.proofs.laws.none_in_order.Goals as goal

pub returns-clause-none : goal.returns-clause-none
returns-clause-none c = none-found

pub returns-clause-any : goal.returns-clause-any
returns-clause-any c = none-at-all
