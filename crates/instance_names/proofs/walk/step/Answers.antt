use Rattle.tla_tree.proofs.Walks.{taken-there}
use Rattle.instance_names.proofs.TreeWalk.{taken}
use Rattle.instance_names.proofs.walk.step.Goals as goal

pub children-requires : goal.children-requires
children-requires c = taken-there c.args.tree.now c.in-Some.node c.args.todo.now.items c.pop.new.self.items c.requires c.in-Some.ensures.items

pub returns : goal.returns
returns c =
    taken c.args.tree.now c.in-Some.node c.children.result.now c.args.todo.now.items c.pop.new.self.items c.push_reversed.new.todo.items
    c.requires c.in-Some.ensures.items c.children.ensures.children c.children.ensures.before c.in_ok-push_reversed.ensures
