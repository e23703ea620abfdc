use Rattle.std.specs.Prelude.{filter}
use Rattle.tree_tasks.specs.WalkTasks.{is_chosen}
use Rattle.tree_tasks.proofs.Running.{each-pushed}
use Rattle.tree_tasks.proofs.tasks.push_chosen.Goals as goal

pub returns : goal.returns
returns c = each-pushed (filter (is_chosen c.args.tree.now c.args.sets) c.args.nodes.now) c.args.tasks.now.items c.append_chosen.new.tasks.items c.in_ok-append_chosen.ensures
