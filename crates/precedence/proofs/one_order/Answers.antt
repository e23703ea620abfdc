use Rattle.precedence.proofs.Orders.{meets-joins}
use Rattle.precedence.proofs.one_order.Goals as goal

pub returns : goal.returns
returns c = meets-joins
