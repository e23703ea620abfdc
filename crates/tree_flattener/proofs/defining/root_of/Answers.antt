use Rattle.std.proofs.Common.{arith}
use Rattle.tree_flattener.proofs.Roots.{empty-root}
use Rattle.tree_flattener.proofs.defining.root_of.Goals as goal

pub returns-in_ok-root-in-empty : goal.returns-in_ok-root-in-empty
returns-in_ok-root-in-empty c = empty-root c.args.state.now c.add_constant.new.state c.in_ok-root-in-empty.root c.args.is.now (omega arith) c.in_ok-root-in-empty.ensures
