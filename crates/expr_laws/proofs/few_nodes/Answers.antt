use Rattle.expr_laws.proofs.Counting.{derives-few}
use Rattle.expr_laws.proofs.few_nodes.Goals as goal

pub returns : goal.returns
returns c = λ tree lexemes d. derives-few d
