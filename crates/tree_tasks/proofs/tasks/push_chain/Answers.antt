use Rattle.tree_tasks.proofs.Running.{chain-pushed}
use Rattle.tree_tasks.proofs.tasks.push_chain.Goals as goal

pub returns : goal.returns
returns c = chain-pushed c.args.nodes.now c.args.tasks.now.items c.append_chain.new.tasks.items c.in_ok-append_chain.ensures
