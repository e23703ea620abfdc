use Rattle.tree_tasks.proofs.Running.{one-pushed}
use Rattle.tree_tasks.proofs.tasks.push_task.Goals as goal

pub returns : goal.returns
returns c = one-pushed c.args.task c.args.tasks.now.items c.push.new.self.items c.in_ok-push.ensures.items
