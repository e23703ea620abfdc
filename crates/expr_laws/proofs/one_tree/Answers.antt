use Rattle.expr_laws.proofs.Complete.{one-tree}
use Rattle.expr_laws.proofs.one_tree.Goals as goal

pub returns : goal.returns
returns c = one-tree
