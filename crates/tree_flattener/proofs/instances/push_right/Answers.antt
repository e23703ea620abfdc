use Rattle.std.proofs.Common.{subst, refl, arith}
use Rattle.tla_model.specs.Entities.{name_of}
use Rattle.tla_tree.proofs.Nodes.{before-there}
use Rattle.flattened_trees.specs.Flattened.{right_of}
use Rattle.tree_flattener.specs.Replacing.{IsRighted}
use Rattle.tree_flattener.proofs.Instantiating.{push-righted}
use Rattle.tree_flattener.proofs.Walking.{at_nodes}
use Rattle.tree_flattener.proofs.instances.push_right.Goals as goal

pub returns-in_ok-push-in-len1-up-is : goal.returns-in_ok-push-in-len1-up-is
returns-in_ok-push-in-len1-up-is c =
    let kids = c.children-children.result.now in
    let tree = c.args.written.now.tree.now in
    let name = name_of c.args.written.now.text.now.source c.args.left in
    subst (λ z. IsRighted c.args.rights.now.items c.push.new.self.items (right_of name (at_nodes tree z) c.args.is.now)) c.children-children.ensures.children
    (push-righted tree kids c.args.is.now name (record { name = c.name_of.result; node = _; at = c.span.result }) c.args.rights.now.items c.push.new.self.items (omega arith) (omega arith)
    (before-there tree c.args.node kids c.requires.node c.children-children.ensures.before) c.name_of.ensures refl c.span.ensures c.in_ok-push-in-len1-up-is.ensures.items)
