use Rattle.module_model.proofs.Ordering.{order-is-one}
use Rattle.module_facts.proofs.laws.one_order.Goals as goal

pub returns : goal.returns
returns c = order-is-one
