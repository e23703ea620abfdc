use Rattle.std.proofs.Common.{subst, ◌<◌}
use Rattle.std.specs.List.{AllByRecursion}
use Rattle.tla_tree.proofs.Nodes.{tree_at-node}
use Rattle.tree_flattener.proofs.shapes.form_of.Goals as goal

pub returns-clause-whole : goal.returns-clause-whole
returns-clause-whole c =
    tree_at-node c.args.tree.now c.args.node c.requires (subst (AllByRecursion (λ child. child < c.args.node)) c.children-children.ensures.children c.children-children.ensures.before)
