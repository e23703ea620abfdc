use Rattle.module_model.proofs.Ordering.{order-is-one}
use Rattle.module_facts.specs.Ordered.{in_order}
use Rattle.module_facts.proofs.Inserting.{in-order}
use Rattle.module_facts.proofs.laws.in_order.Goals as goal

pub returns-clause-are : goal.returns-clause-are
returns-clause-are c = in-order

pub returns-clause-no_other : goal.returns-clause-no_other
returns-clause-no_other c all found are = order-is-one all found (in_order all) are (in-order all)
