use Rattle.tree_tasks.proofs.Running.{each-pushed}
use Rattle.tree_tasks.proofs.tasks.push_each.Goals as goal

pub returns : goal.returns
returns c = each-pushed c.args.nodes.now c.args.tasks.now.items c.append_visits.new.tasks.items c.in_ok-append_visits.ensures
